-- `cuts::search::fill_all` meets its contract.
use Rattle.std.proofs.Common.{rules}
use Rattle.cuts.proofs.FillLaws.{fill_all_needs}
use Rattle.cuts.proofs.search.fill_all.Goals as goal

pub loop-i-init : goal.loop-i-init
loop-i-init c = search (rules, fill_all_needs)
