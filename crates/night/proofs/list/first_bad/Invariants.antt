-- `night::list::first_bad` meets its contract. The invariant: the records before the rest are right, and the rest begins with the next.
use Rattle.std.proofs.Common.{◌≡◌, ◌*◌, drop}
use Rattle.std.specs.Iterator.Adapters.{enumerate_source, enumerate_count}
use Rattle.std.specs.Slice.Iter.{chunks_rest, chunks_size}
use Rattle.night.specs.List.{record_size}
use Rattle.night.proofs.ListLaws.{Looking}
use Rattle.night.proofs.list.first_bad.Given as goal

abbrev pub invariant-loop-index : goal.invariant-loop-index
invariant-loop-index l =
    (goal.iterator-loop-index).can_next l.index-iterator
    × (goal.iterator-loop-index).is_finite l.index-iterator
    × (chunks_size (enumerate_source l.index-iterator) ≡ record_size)
    × (chunks_rest (enumerate_source l.index-iterator) ≡ drop (enumerate_count l.index-iterator * record_size) l.list)
    × Looking l.list (enumerate_count l.index-iterator)
