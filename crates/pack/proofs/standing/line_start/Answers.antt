-- `pack::standing::line_start` meets its contract.
use Prim.Native.Nat.{◌<◌}
use native.Mathlib.Omega.{arith}
use borrow.Author.Rules.{rules}
use Rattle.std.proofs.lemmas.Grind.{get_or_default_zero}
use Rattle.std.proofs.lemmas.Iterator.{YieldsList-from_slice}
use Rattle.std.proofs.lemmas.Iterator.Adapters.{serves_from_places}
use Rattle.element.specs.Table.{elements}
use Rattle.pack.proofs.standing.line_start.Goals as goal

-- Each column is an element.
pub position-requires-clause-callable : goal.position-requires-clause-callable
position-requires-clause-callable c =
    let columns = c.args.columns.now in
    serves_from_places (YieldsList-from_slice columns cc) (λ x q e. search rules)
    (λ x k h e.
    let known : x.now < elements = omega (arith, e, get_or_default_zero columns k x.now h, c.requires.2.known k h) in
    search rules)
