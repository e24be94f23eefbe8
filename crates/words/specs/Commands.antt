-- The words of the commands.
use Rattle.std.specs.Prelude.{ℕ, List, codes}
use Rattle.words.specs.declared.commands.Command.{Command}
use Rattle.words.specs.declared.commands.Command.TheVariants.{Sheet, Fit, Draw, Scan, Table, Demo, Link, Chip}

abbrev pub command_word : Command → List ℕ
command_word Sheet = codes "sheet"
command_word Fit = codes "fit"
command_word Draw = codes "draw"
command_word Scan = codes "scan"
command_word Table = codes "table"
command_word Demo = codes "demo"
command_word Link = codes "link"
command_word Chip = codes "chip"
