-- `inspect::table::first_named` meets its contract.
use Rattle.inspect.proofs.TableLaws.{found_named}
use Rattle.inspect.proofs.table.first_named.Goals as goal

pub returns-clause-has : goal.returns-clause-has
returns-clause-has g c = found_named g.T.Named.name_of c.args.name.now c.args.table.now c.found.result c.found.ensures
