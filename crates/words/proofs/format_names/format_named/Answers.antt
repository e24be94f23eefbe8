-- Three letters have no address bit, four have one.
use Rattle.std.proofs.Common.{◌≡◌, true, false, length, slice_index, arith, ltb-false, ltb-true}
use Rattle.words.proofs.Letters.{by_letters, three, four}
use Rattle.words.proofs.format_names.format_named.Goals as goal

pub returns-in-len3 : goal.returns-in-len3
returns-in-len3 c =
    let xs = c.args.name.now in
    let size : length xs ≡ 3 = omega (arith, ltb-true, ltb-false) in
    by_letters false (slice_index xs 0) (slice_index xs 1) (slice_index xs 2) xs c.form.result (three xs size) c.form.ensures

pub returns-in-65 : goal.returns-in-65
returns-in-65 c =
    let xs = c.args.name.now in
    let size : length xs ≡ 4 = omega (arith, ltb-true, ltb-false) in
    let letter : slice_index xs 1 ≡ 0x41 = omega arith in
    by_letters true (slice_index xs 0) (slice_index xs 2) (slice_index xs 3) xs c.form-in-65.result (four xs size letter) c.form-in-65.ensures
