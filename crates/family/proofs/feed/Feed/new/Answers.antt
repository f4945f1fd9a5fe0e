use Rattle.std.proofs.Common.{◌≡◌, arith, rules}
use Rattle.family.specs.Feeds.{alone_is_feed_member}
use Rattle.family.proofs.feed.Feed.new.Goals as goal

pub returns : goal.returns
returns c =
    let n = c.in_ok-try_from.field-0.count in
    let is : n ≡ c.args.stations = search rules in
    record { refusal = search rules; size = is; members = λ v some low. alone_is_feed_member n v some (omega (arith, is)) }
