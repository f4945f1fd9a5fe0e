-- The second stage, link by link: each link taken enters a greatest member that no link taken before enters.
-- So its head is in no later such member, and no two links taken enter one set of the first stage.
use Rattle.std.proofs.Common.{◌≡◌, ℕ, ◌<◌, ◌≤◌, Bool, true, eqb, ◌⊎◌, sym, refl, ap, subst, inl, inr, arith, eq-eqb, eqb-true}
use lib.Bits.{bit_and, bit_or}
use native.Mathlib.Decide.{ℕ_discrete, dec_lt}
use Rattle.digraph.specs.Links.{Slots}
use Rattle.digraph.specs.Entering.{enters_at}
use Rattle.stations.specs.Sets.{In, Part}
use Rattle.duality.specs.Families.{Family}
use Rattle.duality.proofs.Amounts.{Amounts}
use Rattle.duality.proofs.Searches.{some, some_passes, some_is}
use Rattle.duality.proofs.Entering.{head_at, tail_at, head_in, tail_out, tail_in, enters_meet, enters_union, and_part_left, and_part_right, or_part_left, or_part_right}
use Rattle.duality.proofs.Packing.{Packing}

-- q links l, each taken for a member M; c i k is what is left of link k before set i of the first stage, which has p sets
pub record Taking (G : Amounts) (slots : Slots) (Member : ℕ → Type 0) (p : ℕ) (c : ℕ → ℕ → G.Amount)
    (q : ℕ) (l M : ℕ → ℕ) : Type 0 where
  pub member : (t : ℕ) → t < q → Member (M t)
  -- no link taken before enters it
  pub unentered : (t u : ℕ) → t < q → u < t → enters_at slots (l u) (M t) ≡ true → ⊥
  -- and it is a proper part of no other such member
  pub greatest : (t : ℕ) → t < q → (X : ℕ) → Member X → Part (M t) X
      → ((u : ℕ) → u < t → enters_at slots (l u) X ≡ true → ⊥) → X ≡ M t
  pub enters : (t : ℕ) → t < q → enters_at slots (l t) (M t) ≡ true
  pub nothing_left : (t : ℕ) → t < q → c p (l t) ≡ G.𝟘
  -- no link that enters it came to nothing before
  pub earliest : (t i d : ℕ) → t < q → i ≤ p → enters_at slots d (M t) ≡ true → c i d ≡ G.𝟘 → c i (l t) ≡ G.𝟘

-- link k is one of the links l t with t < q
abbrev pub taken : ℕ → (ℕ → ℕ) → ℕ → Bool
taken q l k = some (λ t. eqb (l t) k) q

pub taken_is : (q : ℕ) (l : ℕ → ℕ) (k : ℕ) → taken q l k ≡ true → (t : ℕ) × (t < q) × (l t ≡ k)
taken_is q l k e = let t = some_is (λ t. eqb (l t) k) q e in (t.0, t.1, eqb-true (l t.0) k t.2)

pub is_taken : (q : ℕ) (l : ℕ → ℕ) (t : ℕ) → t < q → taken q l (l t) ≡ true
is_taken q l t h = some_passes (λ u. eqb (l u) (l t)) q t h (eq-eqb (l t) (l t) refl)

module _ (G : Amounts) (slots : Slots) (Member : ℕ → Type 0) (n : ℕ) (F : Family n Member)
    (p : ℕ) (c : ℕ → ℕ → G.Amount) (q : ℕ) (l M : ℕ → ℕ) (T : Taking G slots Member p c q l M) where
  -- were the head of an earlier link in a later member, the union of the two members would have been free, and larger
  pub head_not_in_later : (t u : ℕ) → t < u → u < q → In (M u) (head_at slots (l t)) → ⊥
  head_not_in_later t u h g i = tail_out slots (l t) (M t) (T.enters t (omega arith)) within
    where
      shared : In (M t) (head_at slots (l t))
      shared = head_in slots (l t) (M t) (T.enters t (omega arith))

      free : (v : ℕ) → v < t → enters_at slots (l v) (bit_or (M t) (M u)) ≡ true → ⊥
      free v d e = go (enters_union slots (l v) (M t) (M u) e)
        where
          go : (enters_at slots (l v) (M t) ≡ true) ⊎ (enters_at slots (l v) (M u) ≡ true) → ⊥
          go (inl x) = T.unentered t v (omega arith) d x
          go (inr x) = T.unentered u v g (omega arith) x

      same : bit_or (M t) (M u) ≡ M t
      same = T.greatest t (omega arith) (bit_or (M t) (M u))
          (F.union (M t) (M u) (head_at slots (l t)) (T.member t (omega arith)) (T.member u g) shared i)
          (or_part_left (M t) (M u)) free

      within : In (M t) (tail_at slots (l t))
      within = subst (λ (x : ℕ). In x (tail_at slots (l t))) same
          (or_part_right (M t) (M u) (tail_at slots (l t)) (tail_in slots (l t) (M u) (T.unentered u t g h) i))

  heads_differ_in_order : (t u : ℕ) → t < u → u < q → head_at slots (l t) ≡ head_at slots (l u) → ⊥
  heads_differ_in_order t u h g e =
      head_not_in_later t u h g (subst (λ (x : ℕ). In (M u) x) (sym e) (head_in slots (l u) (M u) (T.enters u g)))

  pub heads_differ : (t u : ℕ) → t < q → u < q → head_at slots (l t) ≡ head_at slots (l u) → t ≡ u
  heads_differ t u h g e = go (ℕ_discrete t u) (dec_lt t u)
    where
      go : Dec (t ≡ u) → Dec (t < u) → t ≡ u
      go (yes s) d = s
      go (no s) (yes d) = absurd (heads_differ_in_order t u d g e)
      go (no s) (no d) = absurd (heads_differ_in_order u t (omega arith) h (sym e))

  pub links_differ : (t u : ℕ) → t < q → u < q → l t ≡ l u → t ≡ u
  links_differ t u h g e = heads_differ t u h g (ap (head_at slots) e)

  module _ (Z : ℕ → ℕ) (y : ℕ → G.Amount) (P : Packing G slots Member p Z y c) where
    -- a set of the first stage that a later link enters lies inside the member that the link was taken for
    entered_lies_inside : (i u : ℕ) → i < p → u < q → enters_at slots (l u) (Z i) ≡ true → Part (Z i) (M u)
    entered_lies_inside i u h g e = subst (λ (x : ℕ). Part x (M u)) whole (and_part_right (Z i) (M u))
      where
        met : (Member (bit_and (Z i) (M u)))
        met = F.meet (Z i) (M u) (head_at slots (l u)) (P.member i h) (T.member u g)
            (head_in slots (l u) (Z i) e) (head_in slots (l u) (M u) (T.enters u g))

        free : (d : ℕ) → enters_at slots d (bit_and (Z i) (M u)) ≡ true → c i d ≡ G.𝟘 → ⊥
        free d x z = go (enters_meet slots d (Z i) (M u) x)
          where
            go : (enters_at slots d (Z i) ≡ true) ⊎ (enters_at slots d (M u) ≡ true) → ⊥
            go (inl r) = P.unentered i d h r z
            go (inr r) = P.unentered i (l u) h e (T.earliest u i d g (omega arith) r z)

        whole : bit_and (Z i) (M u) ≡ Z i
        whole = P.least i h (bit_and (Z i) (M u)) met (and_part_left (Z i) (M u)) free

    not_entered_later : (i t u : ℕ) → i < p → t < u → u < q → enters_at slots (l t) (Z i) ≡ true → enters_at slots (l u) (Z i) ≡ true → ⊥
    not_entered_later i t u h d g a b =
        head_not_in_later t u d g (entered_lies_inside i u h g b (head_at slots (l t)) (head_in slots (l t) (Z i) a))

    pub entered_at_most_once : (i t u : ℕ) → i < p → t < q → u < q
        → enters_at slots (l t) (Z i) ≡ true → enters_at slots (l u) (Z i) ≡ true → t ≡ u
    entered_at_most_once i t u h d g a b = go (ℕ_discrete t u) (dec_lt t u)
      where
        go : Dec (t ≡ u) → Dec (t < u) → t ≡ u
        go (yes s) x = s
        go (no s) (yes x) = absurd (not_entered_later i t u h x g a b)
        go (no s) (no x) = absurd (not_entered_later i u t h (omega arith) d b a)
