-- The steps along links, as masks: bit v of place u stands for a step from station u to station v.
use Rattle.std.specs.Prelude.{◌≡◌, ℕ, ◌^◌, ◌<◌, List, [], ◌∷◌, Some, None, Option, bit_or, slice_index, slice_set}
use Rattle.digraph.specs.declared.link.Link.{Link}

-- what may be a link has both ends below 40
abbrev pub Low : Option Link → Type 0
Low o = (l : Link) → o ≡ Some l → (l.tail < 40) × (l.head < 40)

-- the masks with the step of one link more, if there is a link
abbrev pub with_step : List ℕ → Option Link → List ℕ
with_step masks None = masks
with_step masks (Some l) = slice_set masks l.tail (bit_or (slice_index masks l.tail) (2 ^ l.head))

-- with those of a list of links more
abbrev pub steps_from : List ℕ → List (Option Link) → List ℕ
steps_from masks [] = masks
steps_from masks (o ∷ os) = steps_from (with_step masks o) os
