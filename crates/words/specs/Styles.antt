-- The words of the forms in which pictures and what is found in them are written.
use Rattle.std.specs.Prelude.{ℕ, List, codes}
use Rattle.words.specs.declared.styles.PictureStyle.{PictureStyle}
use Rattle.words.specs.declared.styles.PictureStyle.TheVariants.{Runs, Bytes, Vcd}
use Rattle.words.specs.declared.styles.FoundStyle.{FoundStyle}
use Rattle.words.specs.declared.styles.FoundStyle.TheVariants.{Text, Hex, Decimal}

abbrev pub picture_word : PictureStyle → List ℕ
picture_word Runs = codes "runs"
picture_word Bytes = codes "bytes"
picture_word Vcd = codes "vcd"

abbrev pub found_word : FoundStyle → List ℕ
found_word Text = codes "text"
found_word Hex = codes "hex"
found_word Decimal = codes "decimal"
