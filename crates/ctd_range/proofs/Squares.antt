-- A number times itself.
use Rattle.ctd_range.proofs.Common.{Computed, Covers, IsIn, Range, ap, arith, in_range, int_pow, ints, negsuc, pos, pow-suc, power, subst, suc, sym, ℕ, ℤ, ◌*ℤ◌, ◌*◌, ◌^◌, ◌≡◌}
use Rattle.std.proofs.Math.Nat.{pow-zero}

second_power : (a : ℕ) → a ^ 2 ≡ a * a
second_power a = let none : a ^ 0 ≡ 1 = pow-zero a in rw (pow-suc a 1, pow-suc a 0, none) (grind arith)

pub squared : (x : ℤ) → int_pow x 2 ≡ x *ℤ x
squared (pos a) = ap pos (second_power a)
squared (negsuc a) = ap pos (second_power (suc a))

-- the power by 2
pub power_by_two : (b : Range) (c : Computed) (n : ℕ) (x y : ℤ) → b.low ≡ pos 2 → b.high ≡ pos 2 → IsIn b n y → Covers c n (in_range (x *ℤ x)) → Covers c n (power x y)
power_by_two b c n x y low high inside covers =
    let l = inside.low in
    let h = inside.high in
    let two : y ≡ pos 2 = omega (arith, ints, l, h, low, high) in
    rw two (subst (λ z. Covers c n (in_range z)) (sym (squared x)) covers)
