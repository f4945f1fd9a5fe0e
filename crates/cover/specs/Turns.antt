-- Stage 2 by itself, turn by turn, out of links in some order.
use Rattle.std.specs.Prelude.{◌≡◌, ℕ, ◌<◌, List, Some, Option, slice_index}
use Rattle.digraph.specs.Links.{Slots}
use Rattle.stages.specs.Asked.{StopsAfter}
use Rattle.stages.specs.Taking.{first_entering, taken_after}

-- every turn finds a link, and one that is not taken yet
abbrev pub Findable : Slots → (List ℕ → Option ℕ) → List ℕ → Type 0
Findable slots largest order =
    (t X : ℕ) → largest (taken_after slots largest order t) ≡ Some X
    → (k : ℕ) × (first_entering slots X order ≡ Some k) × (k < 200) × (slice_index (taken_after slots largest order t) k ≡ 0)

-- the marks after the turn at which the question says none
pub record AllTaken (slots : Slots) (largest : List ℕ → Option ℕ) (order : List ℕ) (marks : List ℕ) : Type 0 where
  pub turns : ℕ
  pub took : StopsAfter (λ t. largest (taken_after slots largest order t)) turns
  pub marks_are : marks ≡ taken_after slots largest order turns
