-- Why a link cannot be added, and why a tree cannot be installed, as refusals of a call.
use Rattle.refusal.specs.declared.Refusal.{Refusal}
use Rattle.refusal.specs.declared.Refusal.TheVariants.{LinkNumber, LinkInUse, NoSuchStation, EqualEnds, PriceOffered, NoSuchLink, TreeLength, StationNotReached}
use Rattle.refusal.specs.declared.LinkRefusal.{LinkRefusal}
use Rattle.refusal.specs.declared.LinkRefusal.TheVariants as link
use Rattle.refusal.specs.declared.TreeRefusal.{TreeRefusal}
use Rattle.refusal.specs.declared.TreeRefusal.TheVariants as tree

abbrev pub refusal_of_link : LinkRefusal → Refusal
refusal_of_link link.LinkNumber = LinkNumber
refusal_of_link link.LinkInUse = LinkInUse
refusal_of_link link.NoSuchStation = NoSuchStation
refusal_of_link link.EqualEnds = EqualEnds
refusal_of_link link.PriceOffered = PriceOffered

abbrev pub refusal_of_tree : TreeRefusal → Refusal
refusal_of_tree tree.TreeLength = TreeLength
refusal_of_tree tree.NoSuchLink = NoSuchLink
refusal_of_tree tree.StationNotReached = StationNotReached
