-- The stations that reach a station along chosen links, and those that are reached from it, are sets that no chosen link enters or leaves.
-- Each is grown from the one station, link by link; a path into a set that no chosen link enters starts in it.
use Rattle.std.proofs.Common.{◌≡◌, ℕ, ◌-◌, ◌^◌, ◌<◌, Bool, ◌⊎◌, subst, inl, inr, arith, pow_pos}
use lib.Pow.{pow-lt}
use Rattle.stations.specs.Sets.{digit, In}
use Rattle.stations.proofs.Digits.{digit_le_1, digit_not, digit_pow_same, In-below, In-pow, in_or_out}
use Rattle.digraph.specs.Entering.{EnteredBy}
use Rattle.digraph.specs.Links.{Slots, Proper}
use Rattle.digraph.specs.Paths.{Path, stay, step}
use Rattle.cuts.specs.Families.{Unentered}
use Rattle.cuts.specs.Reaching.{ChosenStep, ReachesTo, ReachedFrom}
use Rattle.cuts.proofs.EntryCounts.{Enters, enters→ends, ends→enters}
use Rattle.cuts.proofs.Extremes.{entered_or_not}
use Rattle.cuts.proofs.Growing.{Grown, CanGrow, grow, path_crosses, one_more_only, one_more_keeps}

pub path_join : {E : ℕ → ℕ → Type 0} {a b c : ℕ} → Path E a b → Path E b c → Path E a c
path_join p stay = p
path_join p (step q e) = step (path_join p q) e

-- a path of chosen links into a set that none of them enters starts in it
pub path_starts_inside : (slots : Slots) (choice : ℕ → Bool) (set u v : ℕ) → Unentered slots choice set → In set v
    → Path (ChosenStep slots choice) u v → In set u
path_starts_inside slots choice set u v unentered at path = go (in_or_out set u)
  where
    go : In set u ⊎ (digit set u ≡ 0) → In set u
    go (inl i) = i
    go (inr o) =
        let cross = path_crosses set path o at in
        let k = cross.along.0 in
        absurd (unentered (k, cross.along.1, ends→enters slots k cross.tail cross.head set cross.along.2 cross.head_in cross.tail_out))

module _ (n : ℕ) (slots : Slots) (choice : ℕ → Bool) (proper : Proper n slots) where
  -- the ends of a link that enters a set are stations
  ends_below : (k set : ℕ) (ends : Enters slots k set) → (ends.tail < n) × (ends.head < n) × (ends.tail ≡ ends.head → ⊥)
  ends_below k set ends = proper k (record { tail = ends.tail; head = ends.head }) ends.leads

  module _ (v : ℕ) (station : v < n) where
    -- v, and only stations with a path to it
    record Reaching (set : ℕ) : Type 0 where
      has_it : In set v
      paths : (u : ℕ) → In set u → Path (ChosenStep slots choice) u v

    reaching_more : (set : ℕ) → Reaching set → EnteredBy slots choice set → CanGrow n Reaching set
    reaching_more set reaching (k, chosen, enters) = (
      ends.tail,
      (ends_below k set ends).0,
      ends.tail_out,
      record {
        has_it = one_more_keeps set ends.tail v reaching.has_it;
        paths = λ u h. paths u (one_more_only set ends.tail u h);
      },
    )
      where
        ends : Enters slots k set
        ends = enters→ends slots k set enters

        paths : (u : ℕ) → In set u ⊎ (ends.tail ≡ u) → Path (ChosenStep slots choice) u v
        paths u (inl h) = reaching.paths u h
        paths u (inr e) =
            subst (λ (x : ℕ). Path (ChosenStep slots choice) x v) e
            (path_join (step stay (k, chosen, ends.leads)) (reaching.paths ends.head ends.head_in))

    reaching_or_done : (set : ℕ) → set < 2 ^ n → Reaching set → Unentered slots choice set ⊎ CanGrow n Reaching set
    reaching_or_done set small reaching = go (entered_or_not slots choice set)
      where
        go : EnteredBy slots choice set ⊎ Unentered slots choice set → Unentered slots choice set ⊎ CanGrow n Reaching set
        go (inl e) = inr (reaching_more set reaching e)
        go (inr none) = inl none

    grown_reaching : Grown n Reaching (Unentered slots choice)
    grown_reaching = grow n Reaching (Unentered slots choice) reaching_or_done (2 ^ v) (pow-lt station) (record {
      has_it = digit_pow_same v;
      paths = λ u h. subst (λ (x : ℕ). Path (ChosenStep slots choice) x v) (In-pow v u h) stay;
    })

    pub reaches_to : (set : ℕ) × ReachesTo n slots choice v set
    reaches_to = (
      grown_reaching.set,
      record {
        small = grown_reaching.small;
        has_it = grown_reaching.good.has_it;
        unentered = grown_reaching.done;
        least = λ other at none u h. path_starts_inside slots choice other u v none at (grown_reaching.good.paths u h);
      },
    )

    -- what reaches v does so by a path
    pub reaches_to→path : (set u : ℕ) → ReachesTo n slots choice v set → In set u → Path (ChosenStep slots choice) u v
    reaches_to→path set u to h =
        grown_reaching.good.paths u (to.least grown_reaching.set grown_reaching.good.has_it grown_reaching.done u h)

    -- v, and only stations with a path from it
    record Reached (set : ℕ) : Type 0 where
      has_it : In set v
      paths : (u : ℕ) → In set u → Path (ChosenStep slots choice) v u

    reached_more : (set : ℕ) → set < 2 ^ n → Reached set → EnteredBy slots choice (2 ^ n - 1 - set) → CanGrow n Reached set
    reached_more set small reached (k, chosen, enters) = (
      ends.head,
      below.1,
      omega (arith, ends.head_in, digit_not n set ends.head small below.1),
      record {
        has_it = one_more_keeps set ends.head v reached.has_it;
        paths = λ u h. paths u (one_more_only set ends.head u h);
      },
    )
      where
        ends : Enters slots k (2 ^ n - 1 - set)
        ends = enters→ends slots k (2 ^ n - 1 - set) enters

        below : (ends.tail < n) × (ends.head < n) × (ends.tail ≡ ends.head → ⊥)
        below = ends_below k (2 ^ n - 1 - set) ends

        tail_in : In set ends.tail
        tail_in = omega (arith, ends.tail_out, digit_not n set ends.tail small below.0, digit_le_1 set ends.tail)

        paths : (u : ℕ) → In set u ⊎ (ends.head ≡ u) → Path (ChosenStep slots choice) v u
        paths u (inl h) = reached.paths u h
        paths u (inr e) =
            subst (λ (x : ℕ). Path (ChosenStep slots choice) v x) e (step (reached.paths ends.tail tail_in) (k, chosen, ends.leads))

    reached_or_done : (set : ℕ) → set < 2 ^ n → Reached set → Unentered slots choice (2 ^ n - 1 - set) ⊎ CanGrow n Reached set
    reached_or_done set small reached = go (entered_or_not slots choice (2 ^ n - 1 - set))
      where
        go : EnteredBy slots choice (2 ^ n - 1 - set) ⊎ Unentered slots choice (2 ^ n - 1 - set)
            → Unentered slots choice (2 ^ n - 1 - set) ⊎ CanGrow n Reached set
        go (inl e) = inr (reached_more set small reached e)
        go (inr none) = inl none

    grown_reached : Grown n Reached (λ set. Unentered slots choice (2 ^ n - 1 - set))
    grown_reached = grow n Reached (λ set. Unentered slots choice (2 ^ n - 1 - set)) reached_or_done (2 ^ v) (pow-lt station) (record {
      has_it = digit_pow_same v;
      paths = λ u h. subst (λ (x : ℕ). Path (ChosenStep slots choice) v x) (In-pow v u h) stay;
    })

    -- what a path leads to from v is in no set without v that no chosen link enters
    others_apart : (set other u : ℕ) → Reached set → digit other v ≡ 0 → Unentered slots choice other → In other u → digit set u ≡ 0
    others_apart set other u reached out none at = go (in_or_out set u)
      where
        go : In set u ⊎ (digit set u ≡ 0) → digit set u ≡ 0
        go (inl h) = absurd (omega (arith, path_starts_inside slots choice other v u none at (reached.paths u h)))
        go (inr o) = o

    pub reached_from : (set : ℕ) × ReachedFrom n slots choice v set
    reached_from = (
      grown_reached.set,
      record {
        small = grown_reached.small;
        has_it = grown_reached.good.has_it;
        unentered = grown_reached.done;
        greatest = λ other small out none u at.
            omega (
              arith,
              digit_not n grown_reached.set u grown_reached.small (In-below n other u small at),
              others_apart grown_reached.set other u grown_reached.good out none at,
            );
      },
    )

    -- what is reached from v is so by a path
    pub reached_from→path : (set u : ℕ) → ReachedFrom n slots choice v set → In set u → Path (ChosenStep slots choice) v u
    reached_from→path set u from h = grown_reached.good.paths u (go (in_or_out grown_reached.set u))
      where
        below : u < n
        below = In-below n set u from.small h

        go : In grown_reached.set u ⊎ (digit grown_reached.set u ≡ 0) → In grown_reached.set u
        go (inl at) = at
        go (inr out) =
            let rest = 2 ^ n - 1 - grown_reached.set in
            let v_out : digit rest v ≡ 0 = omega (arith, digit_not n grown_reached.set v grown_reached.small station, grown_reached.good.has_it) in
            let u_in : In rest u = omega (arith, digit_not n grown_reached.set u grown_reached.small below) in
            let u_out = from.greatest rest (omega (arith, pow_pos n)) v_out grown_reached.done u u_in in
            absurd (omega (arith, digit_not n set u from.small below))
