-- The look-up answers exactly the row.
use Rattle.std.proofs.Common.{◌≡◌, ℕ, Some, None, Option, sym, ap, arith}
use Rattle.usart.specs.Table.{rows, found, pair, lookup}
use Rattle.usart.proofs.Rows.{distinct, in_range, least, the_row, one_has, some_found, rows_length}
use Rattle.usart.proofs.built.built_in.Goals as goal

pub returns-in_err-row : goal.returns-in_err-row
returns-in_err-row c =
    let e : lookup rows c.args.clock c.args.baud ≡ None = sym (c.in_err-row.ensures {u = tt}) in
    record {
      row = λ k l h. absurd (some_found rows c.args.clock c.args.baud k (omega (arith, l, rows_length)) h e);
      none = λ f. ap found c.from_residual.ensures;
      distinct = distinct;
      ranges = in_range;
    }

pub invariant_of-result : goal.invariant_of-result
invariant_of-result c = record { least = least c.args.clock c.args.baud c.in_ok-row.row (sym (c.in_ok-row.ensures {u = tt})) }

pub returns : goal.returns
returns c =
    let e : lookup rows c.args.clock c.args.baud ≡ Some c.in_ok-row.row = sym (c.in_ok-row.ensures {u = tt}) in
    record {
      row = λ k l h. ap {B = Option (ℕ × ℕ)} (λ x. Some (pair x)) (the_row c.args.clock c.args.baud c.in_ok-row.row e k l h);
      none = λ f. absurd (one_has c.args.clock c.args.baud c.in_ok-row.row e f);
      distinct = distinct;
      ranges = in_range;
    }
