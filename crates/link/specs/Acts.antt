-- What each act on a link answers.
use Rattle.std.specs.Prelude.{List, [], ◌∷◌, Ok, Err, Result}
use Rattle.std.specs.List.{scan}
use Rattle.line.specs.declared.refusal.Refusal.{Refusal}
use Rattle.ends.specs.Sender.{SenderState, sent}
use Rattle.ends.specs.Receiver.{ReceiverState, Entry, oldest}
use Rattle.link.specs.declared.act.Act.{Act}
use Rattle.link.specs.declared.act.Act.TheVariants.{Load, Send, Receive, Noise, Read}
use Rattle.link.specs.declared.act.Answer.{Answer}
use Rattle.link.specs.declared.act.Answer.TheVariants.{Done, Line, Entry as ReadEntry}
use Rattle.link.specs.declared.joined.Link.{Link}
use Rattle.link.specs.Link.{LinkState, linked, loading, after_act}

-- the state of a link, by what its ends mean
abbrev pub link_of : {S R : Type 0} → (S → SenderState) → (R → ReceiverState) → Link S R → LinkState
link_of sends hears k = linked (sends k.sender) (hears k.receiver) k.line

abbrev pub load_told : Result Unit Refusal → Result Answer Refusal
load_told (Ok x) = Ok Done
load_told (Err e) = Err e

abbrev pub read_told : Result Entry Refusal → Result Answer Refusal
read_told (Ok e) = Ok (ReadEntry e.0 e.1)
read_told (Err e) = Err e

abbrev pub answer : LinkState → Act → Result Answer Refusal
answer m (Load c) = load_told (loading m c)
answer m Send = Ok (Line (sent m.sender))
answer m Receive = Ok Done
answer m (Noise l) = Ok Done
answer m Read = read_told (oldest m.receiver.unread)

abbrev pub all_answers : LinkState → List Act → List (Result Answer Refusal)
all_answers m xs = scan after_act answer m xs

-- the entries among some answers
abbrev pub told : List (Result Answer Refusal) → List Entry
told [] = []
told (Ok Done ∷ xs) = told xs
told (Ok (Line l) ∷ xs) = told xs
told (Ok (ReadEntry c flags) ∷ xs) = (c, flags) ∷ told xs
told (Err e ∷ xs) = told xs
