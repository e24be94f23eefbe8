-- Acts and answers of a link as plain numbers.
use Rattle.std.specs.Prelude.{if◌then◌else◌, ◌&&◌, List, [], ◌∷◌, Ok, Err, Result, ◌==◌, nat_lt}
use Rattle.line.specs.declared.refusal.Refusal.{Refusal}
use Rattle.line.specs.declared.refusal.Refusal.TheVariants.{OutOfRange, NotALevel}
use Rattle.line.specs.Refusals.{number_of}
use Rattle.line.specs.Levels.{byte_of, level_of}
use Rattle.link.specs.declared.act.Act.{Act}
use Rattle.link.specs.declared.act.Act.TheVariants.{Load, Send, Receive, Noise, Read}
use Rattle.link.specs.declared.act.Answer.{Answer}
use Rattle.link.specs.declared.act.Answer.TheVariants.{Done, Line, Entry}
use Rattle.capi.specs.declared.numbers.ActNumbers.{ActNumbers}
use Rattle.capi.specs.declared.numbers.AnswerNumbers.{AnswerNumbers}
use Rattle.capi.specs.Settings.{and_then}

-- an act of no kind is declined, and so is noise that is no level
abbrev pub act_check : ActNumbers → Result Unit Refusal
act_check a = if nat_lt 4 a.kind then Err OutOfRange else (if a.kind == 3 && nat_lt 1 a.value then Err NotALevel else Ok tt)

-- what an act means that is not declined
abbrev pub act_of : ActNumbers → Act
act_of a =
    if a.kind == 0 then Load a.value
    else (if a.kind == 1 then Send
    else (if a.kind == 2 then Receive
    else (if a.kind == 3 then Noise (level_of a.value) else Read)))

-- the act, or why it is declined
abbrev pub act_told : ActNumbers → Result Act Refusal
act_told a = and_then (act_check a) (λ _. Ok (act_of a))

-- the first act that is declined decides
abbrev pub acts_check : List ActNumbers → Result Unit Refusal
acts_check [] = Ok tt
acts_check (a ∷ xs) = and_then (act_told a) (λ _. acts_check xs)

abbrev pub told_answer : Result Answer Refusal → AnswerNumbers
told_answer (Ok Done) = record { kind = 0; flags = 0; value = 0 }
told_answer (Ok (Line l)) = record { kind = 1; flags = 0; value = byte_of l }
told_answer (Ok (Entry c flags)) = record { kind = 2; flags = flags; value = c }
told_answer (Err e) = record { kind = 3; flags = 0; value = number_of e }
