-- Multiples of integers.
use Rattle.std.proofs.Common.{ap, arith, pos, suc, zero, ℕ, ℤ, ◌*ℤ◌, ◌+ℤ◌, ◌+◌, ◌≡◌, ◌*◌}
use Rattle.std.proofs.lemmas.Int.{ints}
use Rattle.std.proofs.Math.IntN.{suc_ℤ-*ℤ, zero-*ℤ}

more : (t : ℕ) (x : ℤ) → (pos (suc t) *ℤ x) ≡ (pos t *ℤ x) +ℤ x
more t x = suc_ℤ-*ℤ (pos t) x

pub times_sum : (t : ℕ) (a b : ℤ) → (pos t *ℤ (a +ℤ b)) ≡ (pos t *ℤ a) +ℤ (pos t *ℤ b)
times_sum zero a b = omega (arith, ints, zero-*ℤ (a +ℤ b), zero-*ℤ a, zero-*ℤ b)
times_sum (suc t) a b = omega (arith, ints, more t (a +ℤ b), more t a, more t b, times_sum t a b)

pub sum_times : (a b : ℕ) (x : ℤ) → (pos (a + b) *ℤ x) ≡ (pos a *ℤ x) +ℤ (pos b *ℤ x)
sum_times a zero x =
    let same : a + zero ≡ a = omega arith in
    let left : (pos (a + zero) *ℤ x) ≡ (pos a *ℤ x) = ap (λ k. pos k *ℤ x) same in
    omega (arith, ints, left, zero-*ℤ x)
sum_times a (suc b) x =
    let same : a + suc b ≡ suc (a + b) = omega arith in
    let left : (pos (a + suc b) *ℤ x) ≡ (pos (suc (a + b)) *ℤ x) = ap (λ k. pos k *ℤ x) same in
    omega (arith, ints, left, more (a + b) x, more b x, sum_times a b x)

pub times_times : (n m : ℕ) (x : ℤ) → (pos (m * n) *ℤ x) ≡ (pos n *ℤ (pos m *ℤ x))
times_times zero m x =
    let same : m * zero ≡ zero = omega arith in
    let left : (pos (m * zero) *ℤ x) ≡ (pos zero *ℤ x) = ap (λ k. pos k *ℤ x) same in
    omega (arith, ints, left, zero-*ℤ x, zero-*ℤ (pos m *ℤ x))
times_times (suc n) m x =
    let same : m * suc n ≡ m * n + m = grind arith in
    let left : (pos (m * suc n) *ℤ x) ≡ (pos (m * n + m) *ℤ x) = ap (λ k. pos k *ℤ x) same in
    omega (arith, ints, left, sum_times (m * n) m x, times_times n m x, more n (pos m *ℤ x))
