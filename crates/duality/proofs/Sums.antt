-- Finite sums of amounts, over the numbers below a bound, and of counts.
-- Each law is an induction on the bound; two sums are swapped by the law for a sum of two terms.
use Rattle.std.proofs.Common.{◌≡◌, ℕ, zero, suc, ◌+◌, ◌*◌, ◌<◌, ◌≤◌, Bool, true, false, cond, sym, refl, ap, ◌∙◌, subst, ap₂, mul-suc, arith}
use mathlib.Core.Bool.{false≢true}
use native.Mathlib.Decide.{ℕ_discrete}
use Rattle.duality.specs.Entries.{count_sum, one_if}
use Rattle.duality.proofs.Amounts.{Amounts, given, nothing_and, middle_swap, plus_mono, plus_not_below_nothing, more_with, not_below_itself}

-- ---- sums of counts

-- how many numbers below m pass a test
abbrev pub count : (ℕ → Bool) → ℕ → ℕ
count f = count_sum (λ k. one_if (f k))

pub count_sum_cong : (f g : ℕ → ℕ) (m : ℕ) → ((k : ℕ) → k < m → f k ≡ g k) → count_sum f m ≡ count_sum g m
count_sum_cong f g zero h = refl
count_sum_cong f g (suc m) h = omega (arith, count_sum_cong f g m (λ k l. h k (omega arith)), h m (omega arith))

pub count_sum_mono : (f g : ℕ → ℕ) (m : ℕ) → ((k : ℕ) → k < m → f k ≤ g k) → count_sum f m ≤ count_sum g m
count_sum_mono f g zero h = omega arith
count_sum_mono f g (suc m) h = omega (arith, count_sum_mono f g m (λ k l. h k (omega arith)), h m (omega arith))

pub count_sum_plus : (f g : ℕ → ℕ) (m : ℕ) → count_sum (λ k. f k + g k) m ≡ count_sum f m + count_sum g m
count_sum_plus f g zero = omega arith
count_sum_plus f g (suc m) = omega (arith, count_sum_plus f g m)

pub count_sum_longer : (f : ℕ → ℕ) (m d : ℕ) → m ≤ d → count_sum f m ≤ count_sum f d
count_sum_longer f m zero h = omega (arith, ap (count_sum f) (none m h))
  where
    none : (m : ℕ) → m ≤ 0 → m ≡ 0
    none m h = omega arith
count_sum_longer f m (suc d) h = go (ℕ_discrete m (suc d)) (λ l. count_sum_longer f m d l)
  where
    go : Dec (m ≡ suc d) → (m ≤ d → count_sum f m ≤ count_sum f d) → count_sum f m ≤ count_sum f d + f d
    go (yes e) rest = omega (arith, ap (count_sum f) e)
    go (no ne) rest = omega (arith, rest (omega arith))

pub count_sum_of_nothing : (f : ℕ → ℕ) (m : ℕ) → ((k : ℕ) → k < m → f k ≡ 0) → count_sum f m ≡ 0
count_sum_of_nothing f zero h = refl
count_sum_of_nothing f (suc m) h = omega (arith, count_sum_of_nothing f m (λ k l. h k (omega arith)), h m (omega arith))

-- a term is at most the sum
pub term_≤_count_sum : (f : ℕ → ℕ) (m k : ℕ) → k < m → f k ≤ count_sum f m
term_≤_count_sum f zero k h = omega arith
term_≤_count_sum f (suc m) k h = go (ℕ_discrete k m) (term_≤_count_sum f m k)
  where
    go : Dec (k ≡ m) → (k < m → f k ≤ count_sum f m) → f k ≤ count_sum f m + f m
    go (yes e) rest = omega (arith, ap f e)
    go (no ne) rest = omega (arith, rest (omega arith))

-- where all other terms are 0, the sum is the term left
pub count_sum_of_one : (f : ℕ → ℕ) (m k : ℕ) → k < m → ((j : ℕ) → j < m → (j ≡ k → ⊥) → f j ≡ 0) → count_sum f m ≡ f k
count_sum_of_one f zero k h others = omega arith
count_sum_of_one f (suc m) k h others =
    go (ℕ_discrete k m) (λ l. count_sum_of_one f m k l (λ j g. others j (omega arith)))
  where
    go : Dec (k ≡ m) → (k < m → count_sum f m ≡ f k) → count_sum f m + f m ≡ f k
    go (yes e) rest =
        let none : count_sum f m ≡ 0 = count_sum_of_nothing f m (λ j l. others j (omega arith) (λ q. omega arith)) in
        omega (arith, ap f e)
    go (no ne) rest = omega (arith, rest (omega arith), others m (omega arith) (λ q. omega arith))

pub count_≤ : (f : ℕ → Bool) (m : ℕ) → count f m ≤ m
count_≤ f zero = omega arith
count_≤ f (suc m) = go (f m) (count_≤ f m)
  where
    go : (b : Bool) → count f m ≤ m → count f m + one_if b ≤ suc m
    go true h = omega arith
    go false h = omega arith

-- a test that the first number fails
pub count_without_first : (f : ℕ → Bool) (m : ℕ) → f 0 ≡ false → count f (suc m) ≤ m
count_without_first f zero h = omega (arith, ap one_if h)
count_without_first f (suc m) h = go (f (suc m)) (count_without_first f m h)
  where
    go : (b : Bool) → count f (suc m) ≤ m → count f (suc m) + one_if b ≤ suc m
    go true l = omega arith
    go false l = omega arith

-- larger terms, one of them larger by one or more
pub count_sum_rises : (f g : ℕ → ℕ) (m k : ℕ) → ((j : ℕ) → j < m → f j ≤ g j) → k < m → f k < g k → count_sum f m < count_sum g m
count_sum_rises f g zero k h l s = omega arith
count_sum_rises f g (suc m) k h l s = go (ℕ_discrete k m) (λ d. count_sum_rises f g m k (λ j q. h j (omega arith)) d s)
  where
    go : Dec (k ≡ m) → (k < m → count_sum f m < count_sum g m) → count_sum f m + f m < count_sum g m + g m
    go (yes e) rest = omega (arith, ap f e, ap g e, count_sum_mono f g m (λ j q. h j (omega arith)))
    go (no ne) rest = omega (arith, rest (omega arith), h m (omega arith))

count_one_mono : (x y : Bool) → (x ≡ true → y ≡ true) → one_if x ≤ one_if y
count_one_mono true true h = omega arith
count_one_mono true false h = absurd (false≢true (h refl))
count_one_mono false y h = omega arith

pub count_mono : (f g : ℕ → Bool) (m : ℕ) → ((j : ℕ) → j < m → f j ≡ true → g j ≡ true) → count f m ≤ count g m
count_mono f g m h =
    count_sum_mono (λ j. one_if (f j)) (λ j. one_if (g j)) m (λ j l. count_one_mono (f j) (g j) (h j l))

pub count_rises : (f g : ℕ → Bool) (m k : ℕ) → ((j : ℕ) → j < m → f j ≡ true → g j ≡ true) → k < m → f k ≡ false → g k ≡ true → count f m < count g m
count_rises f g m k h l p q =
    count_sum_rises (λ j. one_if (f j)) (λ j. one_if (g j)) m k (λ j d. count_one_mono (f j) (g j) (h j d)) l
    (omega (arith, ap one_if p, ap one_if q))

pub count_sum_≤_each : (f : ℕ → ℕ) (b m : ℕ) → ((k : ℕ) → k < m → f k ≤ b) → count_sum f m ≤ b * m
count_sum_≤_each f b zero h = omega arith
count_sum_≤_each f b (suc m) h =
    omega (arith, mul-suc b m, count_sum_≤_each f b m (λ k l. h k (omega arith)), h m (omega arith))

-- ---- sums of amounts

module _ (G : Amounts) where
  open G use {Amount, ◌⊕◌, 𝟘, below, associative, commutative, with_nothing, irreflexive, not_below_transitive, total}

  infixl 65 ◌⊕◌
  abbrev pub sum : (ℕ → Amount) → ℕ → Amount
  sum f zero = 𝟘
  sum f (suc m) = sum f m ⊕ f m

  -- an amount, added that often
  abbrev pub times : ℕ → Amount → Amount
  times zero a = 𝟘
  times (suc n) a = times n a ⊕ a

  pub sum_cong : (f g : ℕ → Amount) (m : ℕ) → ((k : ℕ) → k < m → f k ≡ g k) → sum f m ≡ sum g m
  sum_cong f g zero h = refl
  sum_cong f g (suc m) h = ap₂ ◌⊕◌ (sum_cong f g m (λ k l. h k (omega arith))) (h m (omega arith))

  pub sum_plus : (f g : ℕ → Amount) (m : ℕ) → sum (λ k. f k ⊕ g k) m ≡ sum f m ⊕ sum g m
  sum_plus f g zero = sym (with_nothing 𝟘)
  sum_plus f g (suc m) =
      ap (λ (x : Amount). x ⊕ (f m ⊕ g m)) (sum_plus f g m) ∙ middle_swap G (sum f m) (sum g m) (f m) (g m)

  pub sum_of_nothing : (f : ℕ → Amount) (m : ℕ) → ((k : ℕ) → k < m → f k ≡ 𝟘) → sum f m ≡ 𝟘
  sum_of_nothing f zero h = refl
  sum_of_nothing f (suc m) h =
      ap₂ ◌⊕◌ (sum_of_nothing f m (λ k l. h k (omega arith))) (h m (omega arith)) ∙ with_nothing 𝟘

  pub sum_mono : (f g : ℕ → Amount) (m : ℕ) → ((k : ℕ) → k < m → below (g k) (f k) ≡ false) → below (sum g m) (sum f m) ≡ false
  sum_mono f g zero h = irreflexive 𝟘
  sum_mono f g (suc m) h =
      plus_mono G (sum f m) (sum g m) (f m) (g m) (sum_mono f g m (λ k l. h k (omega arith))) (h m (omega arith))

  pub sum_not_below_nothing : (f : ℕ → Amount) (m : ℕ) → ((k : ℕ) → k < m → below (f k) 𝟘 ≡ false) → below (sum f m) 𝟘 ≡ false
  sum_not_below_nothing f zero h = irreflexive 𝟘
  sum_not_below_nothing f (suc m) h =
      plus_not_below_nothing G (sum f m) (f m) (sum_not_below_nothing f m (λ k l. h k (omega arith))) (h m (omega arith))

  pub sum_swap : (f : ℕ → ℕ → Amount) (m n : ℕ) → sum (λ i. sum (f i) n) m ≡ sum (λ j. sum (λ i. f i j) m) n
  sum_swap f zero n = sym (sum_of_nothing (λ j. 𝟘) n (λ k l. refl))
  sum_swap f (suc m) n =
      ap (λ (x : Amount). x ⊕ sum (f m) n) (sum_swap f m n) ∙ sym (sum_plus (λ j. sum (λ i. f i j) m) (f m) n)

  -- of terms not below nothing with a sum of nothing, each is nothing
  pub sum_nothing_each_nothing : (f : ℕ → Amount) (m : ℕ) → ((k : ℕ) → k < m → below (f k) 𝟘 ≡ false) → sum f m ≡ 𝟘
      → (k : ℕ) → k < m → f k ≡ 𝟘
  sum_nothing_each_nothing f zero h e k l = absurd (omega arith)
  sum_nothing_each_nothing f (suc m) h e k l =
      go (ℕ_discrete k m) (λ g. sum_nothing_each_nothing f m (λ j g. h j (omega arith)) rest k g)
    where
      front : below (sum f m) 𝟘 ≡ false
      front = sum_not_below_nothing f m (λ j g. h j (omega arith))

      last : f m ≡ 𝟘
      last = total (f m) 𝟘 (h m (omega arith))
          (subst (λ (x : Amount). below x (f m) ≡ false) (commutative (f m) (sum f m) ∙ e) (more_with G (f m) (sum f m) front))

      rest : sum f m ≡ 𝟘
      rest = sym (with_nothing (sum f m)) ∙ ap (λ (x : Amount). sum f m ⊕ x) (sym last) ∙ e

      go : Dec (k ≡ m) → (k < m → f k ≡ 𝟘) → f k ≡ 𝟘
      go (yes q) before = ap f q ∙ last
      go (no ne) before = before (omega arith)

  -- ---- amounts added a number of times

  pub times_one : (a : Amount) → times 1 a ≡ a
  times_one a = nothing_and G a

  pub times_add : (m n : ℕ) (a : Amount) → times (m + n) a ≡ times m a ⊕ times n a
  times_add m zero a = let e : m + 0 ≡ m = omega arith in ap (λ (x : ℕ). times x a) e ∙ sym (with_nothing (times m a))
  times_add m (suc n) a =
      let e : m + suc n ≡ suc (m + n) = omega arith in
      ap (λ (x : ℕ). times x a) e ∙ ap (λ (x : Amount). x ⊕ a) (times_add m n a) ∙ associative (times m a) (times n a) a

  pub times_plus : (n : ℕ) (a b : Amount) → times n (a ⊕ b) ≡ times n a ⊕ times n b
  times_plus zero a b = sym (with_nothing 𝟘)
  times_plus (suc n) a b = ap (λ (x : Amount). x ⊕ (a ⊕ b)) (times_plus n a b) ∙ middle_swap G (times n a) (times n b) a b

  pub times_nothing : (n : ℕ) → times n 𝟘 ≡ 𝟘
  times_nothing zero = refl
  times_nothing (suc n) = with_nothing (times n 𝟘) ∙ times_nothing n

  pub times_sum : (n : ℕ) (f : ℕ → Amount) (m : ℕ) → times n (sum f m) ≡ sum (λ k. times n (f k)) m
  times_sum n f zero = times_nothing n
  times_sum n f (suc m) = times_plus n (sum f m) (f m) ∙ ap (λ (x : Amount). x ⊕ times n (f m)) (times_sum n f m)

  pub times_count_sum : (f : ℕ → ℕ) (m : ℕ) (a : Amount) → times (count_sum f m) a ≡ sum (λ k. times (f k) a) m
  times_count_sum f zero a = refl
  times_count_sum f (suc m) a =
      times_add (count_sum f m) (f m) a ∙ ap (λ (x : Amount). x ⊕ times (f m) a) (times_count_sum f m a)

  pub times_mono : (n : ℕ) (a b : Amount) → below b a ≡ false → below (times n b) (times n a) ≡ false
  times_mono zero a b h = irreflexive 𝟘
  times_mono (suc n) a b h = plus_mono G (times n a) (times n b) a b (times_mono n a b h) h

  pub times_not_below_nothing : (n : ℕ) (a : Amount) → below a 𝟘 ≡ false → below (times n a) 𝟘 ≡ false
  times_not_below_nothing n a h = subst (λ (x : Amount). below (times n a) x ≡ false) (times_nothing n) (times_mono n 𝟘 a h)

  -- more often is no less, of an amount not below nothing
  pub times_more : (m n : ℕ) (a : Amount) → m ≤ n → below a 𝟘 ≡ false → below (times n a) (times m a) ≡ false
  times_more m zero a h k = let e : m ≡ 0 = omega arith in not_below_itself G 𝟘 (times m a) (ap (λ (x : ℕ). times x a) (sym e))
  times_more m (suc n) a h k = go (ℕ_discrete m (suc n)) (λ l. times_more m n a l k)
    where
      go : Dec (m ≡ suc n) → (m ≤ n → below (times n a) (times m a) ≡ false) → below (times n a ⊕ a) (times m a) ≡ false
      go (yes e) rest = not_below_itself G (times n a ⊕ a) (times m a) (ap (λ (x : ℕ). times x a) (sym e))
      go (no ne) rest =
          not_below_transitive (times n a ⊕ a) (times n a) (times m a) (more_with G (times n a) a k) (rest (omega arith))

  -- a choice is a count of 1 or 0
  pub times_choice : (b : Bool) (a : Amount) → times (one_if b) a ≡ given G b a
  times_choice true a = times_one a
  times_choice false a = refl

  -- counting an amount where a test is passed
  pub times_given : (b : Bool) (n : ℕ) (a : Amount) → times n (given G b a) ≡ times (cond b n 0) a
  times_given true n a = refl
  times_given false n a = times_nothing n

  -- ---- sums over a choice

  pub sum_of_choice : (L : ℕ → Bool) (f : ℕ → Amount) (m : ℕ) → sum (λ k. times (one_if (L k)) (f k)) m ≡ sum (λ k. given G (L k) (f k)) m
  sum_of_choice L f m = sum_cong (λ k. times (one_if (L k)) (f k)) (λ k. given G (L k) (f k)) m (λ k l. times_choice (L k) (f k))

  -- a choice within another costs no more, of terms not below nothing
  pub sum_of_fewer : (L K : ℕ → Bool) (f : ℕ → Amount) (m : ℕ) → ((k : ℕ) → k < m → L k ≡ true → K k ≡ true)
      → ((k : ℕ) → k < m → below (f k) 𝟘 ≡ false)
      → below (sum (λ k. given G (K k) (f k)) m) (sum (λ k. given G (L k) (f k)) m) ≡ false
  sum_of_fewer L K f m within h =
      sum_mono (λ k. given G (L k) (f k)) (λ k. given G (K k) (f k)) m (λ k l. go (L k) (K k) (f k) (within k l) (h k l))
    where
      go : (x y : Bool) (a : Amount) → (x ≡ true → y ≡ true) → below a 𝟘 ≡ false → below (given G y a) (given G x a) ≡ false
      go true true a w h = irreflexive a
      go true false a w h = absurd (false≢true (w refl))
      go false true a w h = h
      go false false a w h = irreflexive 𝟘
