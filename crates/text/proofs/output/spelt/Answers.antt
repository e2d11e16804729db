-- `text::output::spelt` meets its contract.
use Rattle.std.proofs.Common.{List, ℕ, ◌++◌, ◌∙◌, ap, length, drop, replicate}
use Rattle.std.specs.Int.{from_le_bytes, w64}
use Rattle.text.proofs.Outputs.{spelt_is}
use Rattle.text.proofs.output.spelt.Goals as goal

pub returns : goal.returns
returns c =
    let text = c.args.text.now in
    c.from_le_bytes.ensures
    ∙ ap (λ (s : List ℕ). from_le_bytes w64 (s ++ drop (length text) (replicate 8 0))) c.copy_from_slice.ensures.after
    ∙ spelt_is text c.requires
