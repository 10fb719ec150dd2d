-- What a writer took, call after call.
use Rattle.room_report.proofs.Common.{◌≡◌, ℕ, List, [], ◌++◌, refl, sym, ◌∙◌, append-nil, Option, Result, Ok, Err}
use Rattle.room_report.proofs.Common.{RepresentsRoom, Room, View, Report, AppendsFront, OfIntactRoom, Writes}
use Rattle.room_report.proofs.Common.{text_below}
use Rattle.std.specs.Io.KnownBytes.{Appends}
use Rattle.std.specs.Prelude.{OnOk}
use Rattle.room_report.specs.Reported.{Reported}

pub front_is : (a b : Option (List ℕ)) (x y : List ℕ) → x ≡ y → AppendsFront a b x → AppendsFront a b y
front_is a b x y e h = rw (← e) h

pub appends_is : (a b : Option (List ℕ)) (x y : List ℕ) → x ≡ y → Appends a b x → Appends a b y
appends_is a b x y e h = rw (← e) h

-- what was written is a front of it and more
pub sent_front : (a b : Option (List ℕ)) (x y : List ℕ) → Appends a b x → AppendsFront a b (x ++ y)
sent_front a b x y h = (x, y, refl, h)

sent_whole : {X E : Type 0} (a b : Option (List ℕ)) (text other : List ℕ) (r : Result X E)
    → text ≡ other → Writes a b text r → OnOk r (Appends a b other)
sent_whole a b text other (Ok x) same sent = appends_is a b text other same sent
sent_whole a b text other (Err e) same sent = tt

sent_beginning : {X E : Type 0} (a b : Option (List ℕ)) (text other : List ℕ) (r : Result X E)
    → text ≡ other → Writes a b text r
    → AppendsFront a b other
sent_beginning a b text other (Ok x) same sent = (text, [], sym same ∙ sym (append-nil text), sent)
sent_beginning a b text other (Err e) same sent = front_is a b text other same sent

-- what the walk says of a report is what the report promises
pub reported : {X E : Type 0} (report : Report) (text : Room → List ℕ)
    (before after : View) (a b : Option (List ℕ)) (r : Result X E)
    → ((room : Room) → RepresentsRoom before.records.objects room → text_below report room [] ≡ text room)
    → OfIntactRoom before after (λ t room. Writes a b (text_below report room []) r)
    → (after.is_intact → OnOk r after.is_available) → Reported text before after a b r
reported report text before after a b r same value there = record {
  ok = λ intact laid room stand. sent_whole a b _ (text room) r (same room stand) (value intact laid _ refl room stand);
  beginning = λ intact laid room stand.
      sent_beginning a b _ (text room) r (same room stand) (value intact laid _ refl room stand);
  there = there;
}
