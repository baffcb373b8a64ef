-- Ends that move.
use Rattle.ctd_range.proofs.Common.{arith, ints, mul-le-mul_left, mul-le-mul_right, pos, subst, suc, ℕ, ℤ, ◌*◌, ◌+ℤ◌, ◌+◌, ◌-ℤ◌, ◌-◌, ◌≡◌, ◌≤ℤ◌, ◌≤◌}

split_slope : (f d n : ℕ) → (f + d) * n ≡ f * n + d * n
split_slope f d n = omega arith

pub below_by_gain : (x high above : ℤ) (f g n k : ℕ) → f ≤ g → n ≤ k → (x +ℤ pos (f * n)) ≤ℤ high → (high +ℤ pos ((g - f) * k)) ≤ℤ above → (x +ℤ pos (g * n)) ≤ℤ above
below_by_gain x high above f g n k more few here gained =
    let same : f + (g - f) ≡ g = omega arith in
    let parts : g * n ≡ f * n + (g - f) * n = subst (λ s. s * n ≡ f * n + (g - f) * n) same (split_slope f (g - f) n) in
    let moves : (g - f) * n ≤ (g - f) * k = mul-le-mul_left (g - f) few in
    omega (arith, ints, here, gained)

pub below_flat : (x high above : ℤ) (f g n : ℕ) → g ≤ f → (x +ℤ pos (f * n)) ≤ℤ high → high ≤ℤ above → (x +ℤ pos (g * n)) ≤ℤ above
below_flat x high above f g n less here there = let moves : g * n ≤ f * n = mul-le-mul_right n less in omega (arith, ints, here)

pub paid_low : (l x : ℤ) (s n : ℕ) → (l +ℤ pos (s * suc n)) ≤ℤ x → ((l +ℤ pos s) +ℤ pos (s * n)) ≤ℤ x
paid_low l x s n h = let e : s * suc n ≡ s * n + s = omega arith in omega (arith, ints, h)

pub paid_high : (h x : ℤ) (s n : ℕ) → (x +ℤ pos (s * suc n)) ≤ℤ h → (x +ℤ pos (s * n)) ≤ℤ (h -ℤ pos s)
paid_high h x s n k = let e : s * suc n ≡ s * n + s = omega arith in omega (arith, ints, k)

pub above_flat : (x low below : ℤ) (f g n : ℕ) → g ≤ f → below ≤ℤ low → (low +ℤ pos (f * n)) ≤ℤ x → (below +ℤ pos (g * n)) ≤ℤ x
above_flat x low below f g n less there here = let moves : g * n ≤ f * n = mul-le-mul_right n less in omega (arith, ints, here)

pub above_by_gain : (x low below : ℤ) (f g n k : ℕ) → f ≤ g → n ≤ k → (low +ℤ pos (f * n)) ≤ℤ x → (below +ℤ pos ((g - f) * k)) ≤ℤ low → (below +ℤ pos (g * n)) ≤ℤ x
above_by_gain x low below f g n k more few here gained =
    let same : f + (g - f) ≡ g = omega arith in
    let parts : g * n ≡ f * n + (g - f) * n = subst (λ s. s * n ≡ f * n + (g - f) * n) same (split_slope f (g - f) n) in
    let moves : (g - f) * n ≤ (g - f) * k = mul-le-mul_left (g - f) few in
    omega (arith, ints, here, gained)
