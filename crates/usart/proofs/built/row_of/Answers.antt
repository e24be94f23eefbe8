-- The chain over the rows is the look-up.
use Rattle.std.proofs.Common.{rules, tests, ◌∙◌, ◌&&◌, ◌==◌}
use Rattle.std.proofs.lemmas.Iterator.{YieldsList-from_slice}
use Rattle.std.proofs.lemmas.Iterator.Search.{find_from_yields_List}
use Rattle.usart.specs.declared.built.Row.{Row}
use Rattle.usart.specs.Table.{rows}
use Rattle.usart.proofs.built.row_of.Goals as goal

pub returns : goal.returns
unfolding rows
returns c =
    c.copied.ensures
    ∙ find_from_yields_List (λ (r : Row). r.clock == c.args.clock && r.baud == c.args.baud) _ _ _ c.find.ensures.ran
    (YieldsList-from_slice rows c.iter.ensures.rest) (λ x b q k. search (rules, tests))
