-- SET and UNSET, from the front of their lists.
use Rattle.ctd_transfer.proofs.Common.{AbstractState, Acts, Assignment, ClearsAll, ClearsName, Context, Faults, List, ap, assignment, at_drop_more, drop, drop_all, get_or, give_value, length, map, set, subst, sym, ℕ, ◌+◌, ◌<◌, ◌∙◌, ◌∷◌, ◌≡◌, ◌≤◌}
use Rattle.ctd_transfer.proofs.Acting.{ClearLeads, SetLeads, clear_leads_on, nothing_cleared, nothing_set, set_leads_on}
use Rattle.ctd_transfer.proofs.Fits.{AreFaults}

pub clear_step : (g : Context) (st before after : AbstractState) (names : List (List ℕ)) (i : ℕ) (item name : List ℕ) → name ≡ item → i < length names → item ≡ get_or names i item → ClearsName g before name after → ClearLeads g st before (drop i names) names → ClearLeads g st after (drop (i + 1) names) names
clear_step g st before after names i item name same inside is clears leads =
    let front : drop i names ≡ item ∷ drop (i + 1) names = at_drop_more (λ l. l) names i item inside ∙ ap (λ (y : List ℕ). y ∷ drop (i + 1) names) (sym is) in
    clear_leads_on g st before after item (drop (i + 1) names) names (subst (λ n. ClearsName g before n after) same clears) (subst (λ l. ClearLeads g st before l names) front leads)

pub clear_done : (g : Context) (st after : AbstractState) (names : List (List ℕ)) (i : ℕ) → length names ≤ i → ClearLeads g st after (drop i names) names → ClearsAll g st names after
clear_done g st after names i all leads = leads after (subst (λ l. ClearsAll g after l after) (sym (drop_all i names all)) (nothing_cleared g after))

pub set_step : (g : Context) (st before after : AbstractState) (so_far new own : Faults) (xs : List Assignment) (i : ℕ) (a : Assignment) → i < length xs → a ≡ get_or xs i a → Acts g before after own (give_value (assignment a)) → AreFaults so_far new → AreFaults own new
    → SetLeads g st before so_far (map assignment (drop i xs)) (map assignment xs) → SetLeads g st after new (map assignment (drop (i + 1) xs)) (map assignment xs)
set_step g st before after so_far new own xs i a inside is acts more more_own leads =
    let front : map assignment (drop i xs) ≡ assignment a ∷ map assignment (drop (i + 1) xs) = at_drop_more (map assignment) xs i a inside ∙ ap (λ (y : Assignment). assignment y ∷ map assignment (drop (i + 1) xs)) (sym is) in
    set_leads_on g st before after so_far new own (assignment a) (map assignment (drop (i + 1) xs)) (map assignment xs) acts more more_own (subst (λ l. SetLeads g st before so_far l (map assignment xs)) front leads)

pub set_done : (g : Context) (st after : AbstractState) (f : Faults) (xs : List Assignment) (i : ℕ) → length xs ≤ i → SetLeads g st after f (map assignment (drop i xs)) (map assignment xs) → Acts g st after f (set (map assignment xs))
set_done g st after f xs i all leads = leads f after (λ x h. h) (subst (λ l. Acts g after after f (set (map assignment l))) (sym (drop_all i xs all)) (nothing_set g after f))
