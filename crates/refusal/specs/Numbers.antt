-- Every refusal has a number, and some carry more: the one place that says which.
use Rattle.std.specs.Prelude.{ℕ, List, [], ◌∷◌}
use Rattle.stations.specs.Sets.{rising}
use Rattle.refusal.specs.Conversions.{refusal_of_link, refusal_of_tree}
use Rattle.refusal.specs.declared.Refusal.{Refusal}
use Rattle.refusal.specs.declared.Refusal.TheVariants.{ColumnSize, PriceInColumn, StationCount, LinkNumber, LinkInUse, NoSuchStation, EqualEnds, PriceOffered, NoSuchLink, LinkInTree, TreeLength, StationNotReached, NoTree, MemorySize, MemberNotEntered, EqualRouteEnds, FamilyStations, TextSize, FileSize, FileKind, FilePair, FileSection, FileRecord, FileTree}

-- the number by which a refusal is known
abbrev pub number_of : Refusal → ℕ
number_of ColumnSize = 1
number_of PriceInColumn = 2
number_of StationCount = 10
number_of LinkNumber = 11
number_of LinkInUse = 12
number_of NoSuchStation = 13
number_of EqualEnds = 14
number_of PriceOffered = 15
number_of NoSuchLink = 16
number_of LinkInTree = 17
number_of TreeLength = 18
number_of StationNotReached = 19
number_of NoTree = 20
number_of MemorySize = 21
number_of (MemberNotEntered set) = 22
number_of EqualRouteEnds = 23
number_of FamilyStations = 24
number_of TextSize = 25
number_of FileSize = 30
number_of FileKind = 31
number_of FilePair = 32
number_of FileSection = 33
number_of (FileRecord place inner) = 34
number_of (FileTree inner) = 35

-- what it carries beside its number: a set as its stations rising; the place of a record and the
-- number by which adding it was refused; the number by which installing the tree was refused
abbrev pub carried_by : Refusal → List ℕ
carried_by ColumnSize = []
carried_by PriceInColumn = []
carried_by StationCount = []
carried_by LinkNumber = []
carried_by LinkInUse = []
carried_by NoSuchStation = []
carried_by EqualEnds = []
carried_by PriceOffered = []
carried_by NoSuchLink = []
carried_by LinkInTree = []
carried_by TreeLength = []
carried_by StationNotReached = []
carried_by NoTree = []
carried_by MemorySize = []
carried_by (MemberNotEntered set) = rising set
carried_by EqualRouteEnds = []
carried_by FamilyStations = []
carried_by TextSize = []
carried_by FileSize = []
carried_by FileKind = []
carried_by FilePair = []
carried_by FileSection = []
carried_by (FileRecord place inner) = place ∷ number_of (refusal_of_link inner) ∷ []
carried_by (FileTree inner) = number_of (refusal_of_tree inner) ∷ []
