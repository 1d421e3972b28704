-- Where the operator stands in a script, and how it ends.
use Rattle.std.proofs.Common.{◌≡◌, ◌≢◌, ◌⊎◌, inl, inr, ℕ, ◌+◌, ◌-◌, ◌<◌, ◌≤◌, Bool, true, false, if◌then◌else◌, List, [], ◌∷◌, ◌++◌, length, length-append, Result, Ok, Err, refl, sym, ◌∙◌, ap, subst, append_assoc, arith}
use Rattle.std.proofs.lemmas.List.{append-nil}
use Rattle.outside.specs.Counts.{Rose}
use Rattle.text_lines.specs.Lines.{IsOneLine, lines_of, whole_lines}
use Rattle.text_lines.proofs.Lines.{first-long, last_line, lines-line, whole-feed, whole-none}
use Rattle.outside.specs.Told.{Taken}
use Rattle.tool_events.specs.declared.entry.Post.{Post}
use Rattle.tool_events.specs.declared.event.Event.{Event}
use Rattle.line_grammar.specs.declared.line.Line.{Line}
use Rattle.line_grammar.specs.declared.line.Line.TheVariants as line
use Rattle.line_grammar.specs.Reading.{end_at, literal_at, before_space, from_space, digits_at, number_at, run_at, pairs_at, hex_at, line_bytes, script_line_of}
use Rattle.line_grammar.specs.Lines.{script_lines, service_words, access_words, job_word, job_words, control_job_words, up_words, clear_words, lost_words, operator_words, placed_line, removed_line, done_line, failed_line, down_line, skipped_line, comment_line, operator_line, signal_line, watch_line, common_lines}
use Rattle.line_grammar.specs.Texts.{is_quit, IsFront, LineEnded}
use Rattle.tool_texts.proofs.ScriptLines.{long_scripted}
use Rattle.actors.specs.Ends.{ArePosted, LastEnded, NoneEnded, NoneBehindEnded, QuitPostedOr}
use Rattle.actors.specs.Scripts.{Script, AllSaid, OutsideGrammar, QuitAt, behind, line_events, line_says, lines_say, script_of}
use Rattle.actors.specs.Operates.{OperatorDid, OperatorEnds, SaidBy, ScriptOver, script_bytes}
use Rattle.actors.specs.Operating.{DeskTold, Posted, Refused, PostsAll, GivesUp, TakesLine, TakesLast, Quits, EndsAt, counts_of}
use Rattle.source_lines.specs.Reads.{LinesRead, SourceTold, IsPart, NextLine}
use Rattle.actors.specs.declared.end.ActorEnd.{ActorEnd}
use Rattle.actors.specs.declared.end.ActorEnd.TheVariants as end
use Rattle.source_lines.specs.declared.no_line.NoLine.{NoLine}
use Rattle.source_lines.specs.declared.no_line.NoLine.TheVariants as no_line
use Rattle.actors.proofs.Operating.{one_post}
use Rattle.source_lines.proofs.Reading.{Taken-nothing, Taken-more, over_whole, IsOver-since}

-- ---- lists of posts

pub ArePosted-both : (a b : List Event) (xs ys : List Post) → ArePosted a xs → ArePosted b ys → ArePosted (a ++ b) (xs ++ ys)
ArePosted-both [] b [] ys first second = second
ArePosted-both [] b (x ∷ xs) ys first second = absurd first
ArePosted-both (e ∷ a) b [] ys first second = absurd first
ArePosted-both (e ∷ a) b (x ∷ xs) ys first second = (first.0, first.1, ArePosted-both a b xs ys first.2 second)

pub NoneEnded-both : (xs ys : List Post) → NoneEnded xs → NoneEnded ys → NoneEnded (xs ++ ys)
NoneEnded-both [] ys first second = second
NoneEnded-both (x ∷ xs) ys first second = (first.0, NoneEnded-both xs ys first.1 second)

-- none was answered Ended, but for the last at most
NoneBehind-more : (front posts : List Post) → NoneEnded front → NoneBehindEnded posts → NoneBehindEnded ((front ++ posts) ++ [])
NoneBehind-more front posts none h = record {
  before = front ++ h.before;
  last = h.last;
  joined = append-nil (front ++ posts) ∙ ap (λ (ps : List Post). front ++ ps) h.joined ∙ sym (append_assoc front h.before h.last);
  none = NoneEnded-both front h.before none h.none;
  one = h.one;
}

quit_size : (fulls fulls' wants wants' : ℕ) (posts : List Post) → QuitPostedOr fulls fulls' wants wants' posts → length posts ≤ 1
quit_size fulls fulls' wants wants' posts (inl posted) = omega (arith, one_post _ posts posted)
quit_size fulls fulls' wants wants' posts (inr refused) = omega (arith, ap length refused.0)

NoneBehind-last : (front last : List Post) → NoneEnded front → length last ≤ 1 → NoneBehindEnded (front ++ last)
NoneBehind-last front last none one = record { before = front; last = last; joined = refl; none = none; one = one }

grew_then : (a b c front back : List Post) → b ≡ a ++ front → c ≡ b ++ back → c ≡ a ++ (front ++ back)
grew_then a b c front back first second = second ∙ ap (λ (ps : List Post). ps ++ back) first ∙ append_assoc a front back

QuitPostedOr-since : (a b c : ℕ) (k l m : ℕ) (posts : List Post) → b ≡ a → l ≡ k → QuitPostedOr b c l m posts → QuitPostedOr a c k m posts
QuitPostedOr-since a b c k l m posts fulls wants h = subst (λ (n : ℕ). QuitPostedOr n c k m posts) fulls (subst (λ (n : ℕ). QuitPostedOr b c n m posts) wants h)

-- ---- what lines say

behind_both : (a b : List Event) (s : Script) → behind a (behind b s) ≡ behind (a ++ b) s
behind_both a b s = ap (λ (es : List Event). record s { events = es }) (sym (append_assoc a b s.events))

-- what a line says that goes on, and then the lines behind it
says_on : (number : ℕ) (text : List ℕ) (lines : List (List ℕ)) (says : Line) → script_line_of text ≡ Ok says → is_quit says ≡ false → lines_say number (text ∷ lines) ≡ behind (line_events says) (lines_say (number + 1) lines)
says_on number text lines says is on =
    ap (λ (o : Result Line ℕ). line_says number o (lines_say (number + 1) lines)) is
    ∙ ap (λ (quits : Bool). behind (line_events says) (if quits then record { events = []; stop = QuitAt number } else lines_say (number + 1) lines)) on

-- what the line says that ends the run
says_quit : (number : ℕ) (text : List ℕ) (lines : List (List ℕ)) (says : Line) → script_line_of text ≡ Ok says → is_quit says ≡ true → lines_say number (text ∷ lines) ≡ record { events = line_events says; stop = QuitAt number }
says_quit number text lines says is quits =
    ap (λ (o : Result Line ℕ). line_says number o (lines_say (number + 1) lines)) is
    ∙ ap (λ (quits : Bool). behind (line_events says) (if quits then record { events = []; stop = QuitAt number } else lines_say (number + 1) lines)) quits
    ∙ ap (λ (es : List Event). record { events = es; stop = QuitAt number }) (append-nil (line_events says))

says_outside : (number : ℕ) (text : List ℕ) (lines : List (List ℕ)) (place : ℕ) → script_line_of text ≡ Err place → lines_say number (text ∷ lines) ≡ record { events = []; stop = OutsideGrammar number place }
says_outside number text lines place is = ap (λ (o : Result Line ℕ). line_says number o (lines_say (number + 1) lines)) is

-- an empty line says nothing
empty_line : script_line_of [] ≡ Ok line.Skip
unfolding script_line_of end_at literal_at before_space from_space digits_at number_at run_at pairs_at hex_at service_words access_words job_word job_words control_job_words up_words clear_words lost_words operator_words placed_line removed_line done_line failed_line down_line skipped_line comment_line operator_line signal_line watch_line common_lines script_lines
empty_line = refl

abbrev said_so : Line → Result Line ℕ
said_so says = Ok says

abbrev refused_at : ℕ → Result Line ℕ
refused_at place = Err place

skips : (says : Line) → script_line_of [] ≡ Ok says → line.Skip ≡ says
skips says is = let same : said_so line.Skip ≡ Ok says = sym empty_line ∙ is in cc same

-- a line outside the grammar is not empty, nor is one that ends the run
outside_some : (text : List ℕ) (place : ℕ) → script_line_of text ≡ Err place → text ≢ []
outside_some text place is none = let same : said_so line.Skip ≡ refused_at place = sym empty_line ∙ ap script_line_of (sym none) ∙ is in cc same

quit_some : (text : List ℕ) (says : Line) → script_line_of text ≡ Ok says → is_quit says ≡ true → text ≢ []
quit_some text says is quits none =
    let same : said_so line.Skip ≡ said_so says = sym empty_line ∙ ap script_line_of (sym none) ∙ is in
    let skip : line.Skip ≡ says = cc same in
    let clash : false ≡ true = ap is_quit skip ∙ quits in
    cc clash

-- what the last line says, which may be empty
last_all : (number : ℕ) (text : List ℕ) (says : Line) → IsOneLine text → script_line_of text ≡ Ok says → is_quit says ≡ false → lines_say number (lines_of text) ≡ record { events = line_events says; stop = AllSaid }
last_all number [] says one is on = ap (λ (l : Line). record { events = line_events l; stop = AllSaid }) (skips says is)
last_all number (b ∷ text) says one is on =
    ap (lines_say number) (last_line (b ∷ text) one (λ e. cc))
    ∙ says_on number (b ∷ text) [] says is on
    ∙ ap (λ (es : List Event). record { events = es; stop = AllSaid }) (append-nil (line_events says))

none_behind : (number : ℕ) (quits : Bool) (more : Script) → more ≡ record { events = []; stop = AllSaid } → (if quits then record { events = []; stop = QuitAt number } else more).events ≡ []
none_behind number true more is = refl
none_behind number false more is = ap (λ (s : Script). s.events) is

last_events : (number : ℕ) (text : List ℕ) (says : Line) → IsOneLine text → script_line_of text ≡ Ok says → (lines_say number (lines_of text)).events ≡ line_events says
last_events number [] says one is = ap line_events (skips says is)
last_events number (b ∷ text) says one is =
    ap (λ (ls : List (List ℕ)). (lines_say number ls).events) (last_line (b ∷ text) one (λ e. cc))
    ∙ ap (λ (o : Result Line ℕ). (line_says number o (lines_say (number + 1) [])).events) is
    ∙ ap (λ (es : List Event). line_events says ++ es) (none_behind number (is_quit says) (lines_say (number + 1) []) refl)
    ∙ append-nil (line_events says)

-- ---- where the operator stands

-- The text up to now is whole lines and then what is kept of it. The new posts are what the whole lines say, and whatever
-- follows them goes on from here.
pub record Stands (text kept : List ℕ) (number : ℕ) (start now : DeskTold) : Type 0 where
  pub whole : List ℕ
  pub said : List Event
  pub lines : List Post
  pub text_is : text ≡ whole ++ kept
  pub ends : (part : List ℕ) → IsOneLine part → whole_lines (whole ++ part) ≡ whole
  pub count : (more : List ℕ) → length (lines_of (whole ++ more)) + 1 ≡ number + length (lines_of more)
  pub goes_on : (more : List ℕ) → script_of (whole ++ more) ≡ behind said (lines_say number (lines_of more))
  pub grew : now.posts ≡ start.posts ++ lines
  pub are : ArePosted said lines
  pub none : NoneEnded lines
  pub fulls : now.fulls ≡ start.fulls
  pub wants : now.wants ≡ start.wants

Stands-open : (start : DeskTold) → Stands [] [] 1 start start
Stands-open start = record {
  whole = [];
  said = [];
  lines = [];
  text_is = refl;
  ends = λ part one. whole-none part one;
  count = λ more. omega arith;
  goes_on = λ more. refl;
  grew = sym (append-nil start.posts);
  are = tt;
  none = tt;
  fulls = refl;
  wants = refl;
}

-- what a line that goes on says was posted
record Took (text : List ℕ) (now mid : DeskTold) : Type 0 where
  pub says : Line
  pub is : script_line_of text ≡ Ok says
  pub on : is_quit says ≡ false
  pub posted : Posted (line_events says) now mid
  pub none : NoneEnded posted.posts

took_by : (text : List ℕ) (says : Result Line ℕ) (number : ℕ) (now mid : DeskTold) → script_line_of text ≡ says → TakesLine says number now mid (Ok tt) → Took text now mid
took_by text (Ok says) number now mid is (posted, none, on) = record { says = says; is = is; on = on; posted = posted; none = none }
took_by text (Err place) number now mid is takes = absurd (cc (takes.0))

took : (text : List ℕ) (number : ℕ) (now mid : DeskTold) → TakesLine (script_line_of text) number now mid (Ok tt) → Took text now mid
took text number now mid takes = took_by text (script_line_of text) number now mid refl takes

line_on : (whole text more : List ℕ) → ((whole ++ text) ++ 10 ∷ []) ++ more ≡ whole ++ (text ++ 10 ∷ more)
line_on whole text more = append_assoc (whole ++ text) (10 ∷ []) more ∙ append_assoc whole text (10 ∷ more)

text_on : (text kept whole more tail : List ℕ) → text ≡ whole ++ kept → kept ++ more ≡ tail → text ++ more ≡ whole ++ tail
text_on text kept whole more tail text_is is = ap (λ (t : List ℕ). t ++ more) text_is ∙ append_assoc whole kept more ∙ ap (λ (t : List ℕ). whole ++ t) is

Stands-line : (text kept more line kept' : List ℕ) (number : ℕ) (start now mid : DeskTold) → Stands text kept number start now → kept ++ more ≡ line ++ 10 ∷ kept' → IsOneLine line → TakesLine (script_line_of line) number now mid (Ok tt) → Stands (text ++ more) kept' (number + 1) start mid
Stands-line text kept more line kept' number start now mid s is one takes =
    let t = took line number now mid takes in
    record {
      whole = (s.whole ++ line) ++ 10 ∷ [];
      said = s.said ++ line_events t.says;
      lines = s.lines ++ t.posted.posts;
      text_is = text_on text kept s.whole more (line ++ 10 ∷ kept') s.text_is is ∙ sym (line_on s.whole line kept');
      ends = λ part none. ap whole_lines (append_assoc (s.whole ++ line) (10 ∷ []) part) ∙ whole-feed (s.whole ++ line) part ∙ ap (λ (bs : List ℕ). (s.whole ++ line) ++ 10 ∷ bs) (whole-none part none);
      count = λ behind.
          let all = ap (λ (t : List ℕ). length (lines_of t)) (line_on s.whole line behind) in
          let here = ap length (lines-line line behind one) in
          omega (arith, all, here, s.count (line ++ 10 ∷ behind));
      goes_on = λ next.
          ap script_of (line_on s.whole line next)
          ∙ s.goes_on (line ++ 10 ∷ next)
          ∙ ap (λ (ls : List (List ℕ)). behind s.said (lines_say number ls)) (lines-line line next one)
          ∙ ap (behind s.said) (says_on number line (lines_of next) t.says t.is t.on)
          ∙ behind_both s.said (line_events t.says) (lines_say (number + 1) (lines_of next));
      grew = grew_then start.posts now.posts mid.posts s.lines t.posted.posts s.grew t.posted.grew;
      are = ArePosted-both s.said (line_events t.says) s.lines t.posted.posts s.are t.posted.are;
      none = NoneEnded-both s.lines t.posted.posts s.none t.none;
      fulls = t.posted.fulls ∙ s.fulls;
      wants = t.posted.wants ∙ s.wants;
    }

-- ---- how it ends

-- how it ended in a text, of which Over says that no more follows
pub record EndsSo (e : ActorEnd) (Over : Type 0) (text : List ℕ) (start new : DeskTold) (source source' : SourceTold) : Type 0 where
  pub said : List Event
  pub lines : List Post
  pub behind : List Post
  pub grew : new.posts ≡ start.posts ++ (lines ++ behind)
  pub are_lines : ArePosted said lines
  pub no_more : NoneBehindEnded (lines ++ behind)
  pub ends : OperatorEnds e Over text (counts_of start source) (counts_of new source') said lines behind

-- all that the whole lines say
all_said : (said : List Event) (number : ℕ) → behind said (lines_say number []) ≡ record { events = said; stop = AllSaid }
all_said said number = ap (λ (es : List Event). record { events = es; stop = AllSaid }) (append-nil said)

whole_said : (text kept : List ℕ) (number : ℕ) (start now : DeskTold) (s : Stands text kept number start now) → script_of s.whole ≡ record { events = s.said; stop = AllSaid }
whole_said text kept number start now s = ap script_of (sym (append-nil s.whole)) ∙ s.goes_on [] ∙ all_said s.said number

-- the whole lines have ended
whole_ended : (Over : Type 0) (text kept all tail : List ℕ) (number : ℕ) (start now : DeskTold) (s : Stands text kept number start now) → all ≡ s.whole ++ tail → SaidBy Over all s.said
whole_ended Over text kept all tail number start now s is = (
  s.whole,
  record { front = record { behind = tail; joined = is }; ends = inl (sym (s.ends [] refl) ∙ ap whole_lines (append-nil s.whole)) },
  record { behind = []; joined = ap (λ (script : Script). script.events) (whole_said text kept number start now s) ∙ sym (append-nil s.said) },
)

-- the whole lines of a text whose last line isn't whole
part_said : (text kept all part : List ℕ) (number : ℕ) (start now : DeskTold) (s : Stands text kept number start now) → all ≡ s.whole ++ part → IsOneLine part → script_of (whole_lines all) ≡ record { events = s.said; stop = AllSaid }
part_said text kept all part number start now s is one =
    ap script_of (ap whole_lines is ∙ s.ends part one) ∙ whole_said text kept number start now s

-- a line of this number that isn't empty
number_of : (text kept part : List ℕ) (number : ℕ) (start now : DeskTold) (s : Stands text kept number start now) → IsOneLine part → part ≢ [] → length (lines_of (s.whole ++ part)) ≡ number
number_of text kept part number start now s one some =
    let last = ap length (last_line part one some) in
    omega (arith, last, s.count part)

-- it gives up
gave_up : (e : ActorEnd) (Over : Type 0) (text kept all : List ℕ) (number : ℕ) (start now new : DeskTold) (source source' : SourceTold) (s : Stands text kept number start now) → GivesUp now new →
    ((posts : List Post) → QuitPostedOr start.fulls new.fulls start.wants new.wants posts → OperatorEnds e Over all (counts_of start source) (counts_of new source') s.said s.lines posts) →
    EndsSo e Over all start new source source'
gave_up e Over text kept all number start now new source source' s gives ends =
    let posted = QuitPostedOr-since start.fulls now.fulls new.fulls start.wants now.wants new.wants gives.behind s.fulls s.wants gives.posted in
    record {
      said = s.said;
      lines = s.lines;
      behind = gives.behind;
      grew = grew_then start.posts now.posts new.posts s.lines gives.behind s.grew gives.grew;
      are_lines = s.are;
      no_more = NoneBehind-last s.lines gives.behind s.none (quit_size _ _ _ _ gives.behind posted);
      ends = ends gives.behind posted;
    }

-- a post was refused
refused : (e : ActorEnd) (Over : Type 0) (text kept all tail : List ℕ) (number : ℕ) (start now new : DeskTold) (source source' : SourceTold) (s : Stands text kept number start now) → all ≡ s.whole ++ tail → Refused e now new → EndsSo e Over all start new source source'
refused end.Full Over text kept all tail number start now new source source' s is (same, rose) = record {
  said = s.said;
  lines = s.lines;
  behind = [];
  grew = same ∙ s.grew ∙ ap (λ (ps : List Post). start.posts ++ ps) (sym (append-nil s.lines));
  are_lines = s.are;
  no_more = NoneBehind-last s.lines [] s.none (omega arith);
  ends = inr (refl, whole_ended Over text kept all tail number start now s is, subst (λ (n : ℕ). Rose n new.fulls) s.fulls rose);
}
refused end.NoMemory Over text kept all tail number start now new source source' s is (same, rose) = record {
  said = s.said;
  lines = s.lines;
  behind = [];
  grew = same ∙ s.grew ∙ ap (λ (ps : List Post). start.posts ++ ps) (sym (append-nil s.lines));
  are_lines = s.are;
  no_more = NoneBehind-last s.lines [] s.none (omega arith);
  ends = (whole_ended Over text kept all tail number start now s is, inr (refl, inr (subst (λ (n : ℕ). Rose n new.wants) s.wants rose)));
}
refused end.Quit Over text kept all tail number start now new source source' s is h = absurd h
refused end.ReadFault Over text kept all tail number start now new source source' s is h = absurd h
refused (end.Line n place) Over text kept all tail number start now new source source' s is h = absurd h
refused end.Door Over text kept all tail number start now new source source' s is h = absurd h

-- what is known of a line in a text: it has ended, and where it isn't empty it is the next of the lines
record At (Over : Type 0) (whole all line tail : List ℕ) (lines : List (List ℕ)) : Type 0 where
  pub is : all ≡ whole ++ tail
  pub next : line ≢ [] → lines_of tail ≡ line ∷ lines
  pub ended : LineEnded Over all (whole ++ line)
  pub front : IsFront (whole ++ line) all

-- the lines up to it say what was posted, and what it says
line_said : (Over : Type 0) (text kept all line tail : List ℕ) (lines : List (List ℕ)) (number : ℕ) (start now : DeskTold) (s : Stands text kept number start now) (says : Line) → At Over s.whole all line tail lines → IsOneLine line → script_line_of line ≡ Ok says → SaidBy Over all (s.said ++ line_events says)
line_said Over text kept all line tail lines number start now s says at one is = (
  s.whole ++ line,
  record { front = at.front; ends = inr at.ended },
  record {
    behind = [];
    joined = ap (λ (script : Script). script.events) (s.goes_on line) ∙ ap (λ (es : List Event). s.said ++ es) (last_events number line says one is) ∙ sym (append-nil (s.said ++ line_events says));
  },
)

-- it ended behind a post
behind_post : (Over : Type 0) (text kept all line tail : List ℕ) (lines : List (List ℕ)) (number : ℕ) (start now new : DeskTold) (source source' : SourceTold) (s : Stands text kept number start now) (says : Line) → At Over s.whole all line tail lines → IsOneLine line → script_line_of line ≡ Ok says →
    (p : Posted (line_events says) now new) → NoneBehindEnded p.posts → (is_quit says ≡ true) ⊎ LastEnded p.posts → EndsSo end.Quit Over all start new source source'
behind_post Over text kept all line tail lines number start now new source source' s says at one is p none why = record {
  said = s.said ++ line_events says;
  lines = s.lines ++ p.posts;
  behind = [];
  grew = grew_then start.posts now.posts new.posts s.lines p.posts s.grew p.grew ∙ ap (λ (ps : List Post). start.posts ++ ps) (sym (append-nil (s.lines ++ p.posts)));
  are_lines = ArePosted-both s.said (line_events says) s.lines p.posts s.are p.are;
  no_more = NoneBehind-more s.lines p.posts s.none none;
  ends = elim why [
    | inl quits ↦ inl (
      refl,
      number,
      ap script_of at.is ∙ s.goes_on tail
          ∙ ap (λ (ls : List (List ℕ)). behind s.said (lines_say number ls)) (at.next (quit_some line says is quits))
          ∙ ap (behind s.said) (says_quit number line lines says is quits),
      (s.whole ++ line, at.ended, number_of text kept line number start now s one (quit_some line says is quits)),
    )
    | inr last ↦ inr (inr (
      refl,
      (s.lines ++ last.0, last.1, ap (λ (ps : List Post). s.lines ++ ps) last.2 ∙ sym (append_assoc s.lines last.0 (last.1 ∷ [])), last.3),
      line_said Over text kept all line tail lines number start now s says at one is,
    ))
  ];
}

-- a line outside the grammar
outside : (Over : Type 0) (text kept all line tail : List ℕ) (lines : List (List ℕ)) (number place : ℕ) (start now new : DeskTold) (source source' : SourceTold) (s : Stands text kept number start now) → At Over s.whole all line tail lines → IsOneLine line → script_line_of line ≡ Err place → GivesUp now new → EndsSo (end.Line number place) Over all start new source source'
outside Over text kept all line tail lines number place start now new source source' s at one is gives =
    gave_up (end.Line number place) Over text kept all number start now new source source' s gives (λ posts posted. (
      ap script_of at.is ∙ s.goes_on tail
          ∙ ap (λ (ls : List (List ℕ)). behind s.said (lines_say number ls)) (at.next (outside_some line place is))
          ∙ ap (behind s.said) (says_outside number line lines place is)
          ∙ ap (λ (es : List Event). record { events = es; stop = OutsideGrammar number place }) (append-nil s.said),
      (s.whole ++ line, at.ended, number_of text kept line number start now s one (outside_some line place is)),
      posted,
    ))

line_by : (says : Result Line ℕ) (e : ActorEnd) (Over : Type 0) (text kept all line tail : List ℕ) (lines : List (List ℕ)) (number : ℕ) (start now new : DeskTold) (source source' : SourceTold) (s : Stands text kept number start now) → At Over s.whole all line tail lines → IsOneLine line → script_line_of line ≡ says → TakesLine says number now new (Err e) → EndsSo e Over all start new source source'
line_by (Err place) e Over text kept all line tail lines number start now new source source' s at one is takes =
    let same : end.Line number place ≡ e = cc (takes.0) in
    subst (λ (e : ActorEnd). EndsSo e Over all start new source source') same
    (outside Over text kept all line tail lines number place start now new source source' s at one is takes.1)
line_by (Ok says) end.Quit Over text kept all line tail lines number start now new source source' s at one is (p, none, why) =
    behind_post Over text kept all line tail lines number start now new source source' s says at one is p none why
line_by (Ok says) end.Full Over text kept all line tail lines number start now new source source' s at one is takes =
    refused end.Full Over text kept all tail number start now new source source' s at.is takes
line_by (Ok says) end.NoMemory Over text kept all line tail lines number start now new source source' s at one is takes =
    refused end.NoMemory Over text kept all tail number start now new source source' s at.is takes
line_by (Ok says) end.ReadFault Over text kept all line tail lines number start now new source source' s at one is takes = absurd takes
line_by (Ok says) (end.Line n place) Over text kept all line tail lines number start now new source source' s at one is takes = absurd takes
line_by (Ok says) end.Door Over text kept all line tail lines number start now new source source' s at one is takes = absurd takes

-- it ended at a line
line_ends : (e : ActorEnd) (Over : Type 0) (text kept all line tail : List ℕ) (lines : List (List ℕ)) (number : ℕ) (start now new : DeskTold) (source source' : SourceTold) (s : Stands text kept number start now) → At Over s.whole all line tail lines → IsOneLine line → TakesLine (script_line_of line) number now new (Err e) → EndsSo e Over all start new source source'
line_ends e Over text kept all line tail lines number start now new source source' s at one takes =
    line_by (script_line_of line) e Over text kept all line tail lines number start now new source source' s at one refl takes

-- a line whose line feed came
at_feed : (Over : Type 0) (whole all line kept : List ℕ) → all ≡ whole ++ (line ++ 10 ∷ kept) → IsOneLine line → At Over whole all line (line ++ 10 ∷ kept) (lines_of kept)
at_feed Over whole all line kept is one =
    let joined = is ∙ sym (append_assoc whole line (10 ∷ kept)) in
    record {
      is = is;
      next = λ some. lines-line line kept one;
      ended = inl (kept, joined);
      front = record { behind = 10 ∷ kept; joined = joined };
    }

-- the last line of a script that is over
at_last : (Over : Type 0) (whole all line : List ℕ) → all ≡ whole ++ line → IsOneLine line → Over → At Over whole all line line []
at_last Over whole all line is one over = record {
  is = is;
  next = λ some. last_line line one some;
  ended = inr (inr (sym is, over));
  front = record { behind = []; joined = is ∙ sym (append-nil (whole ++ line)) };
}

-- ---- the end of the script

-- all lines of the script say what was posted
all_lines_said : (text kept all line : List ℕ) (number : ℕ) (start now mid : DeskTold) (s : Stands text kept number start now) (t : Took line now mid) → all ≡ s.whole ++ line → IsOneLine line → script_of all ≡ record { events = s.said ++ line_events t.says; stop = AllSaid }
all_lines_said text kept all line number start now mid s t is one =
    ap script_of is ∙ s.goes_on line ∙ ap (behind s.said) (last_all number line t.says one t.is t.on)

all_ended : (Over : Type 0) (all : List ℕ) (said : List Event) → Over → script_of all ≡ record { events = said; stop = AllSaid } → SaidBy Over all said
all_ended Over all said over is = (
  all,
  record { front = record { behind = []; joined = sym (append-nil all) }; ends = inr (inr (inr (refl, over))) },
  record { behind = []; joined = ap (λ (script : Script). script.events) is ∙ sym (append-nil said) },
)

-- behind all lines it ends the run, or that was refused
quits_behind : (e : ActorEnd) (Over : Type 0) (text kept all line : List ℕ) (number : ℕ) (start now mid new : DeskTold) (source source' : SourceTold) (s : Stands text kept number start now) (t : Took line now mid) → all ≡ s.whole ++ line → IsOneLine line → Over → Quits mid new e → EndsSo e Over all start new source source'
quits_behind end.Quit Over text kept all line number start now mid new source source' s t is one over (last, grew, posted) =
    let front = grew_then start.posts now.posts mid.posts s.lines t.posted.posts s.grew t.posted.grew in
    record {
      said = s.said ++ line_events t.says;
      lines = s.lines ++ t.posted.posts;
      behind = last;
      grew = grew_then start.posts mid.posts new.posts (s.lines ++ t.posted.posts) last front grew;
      are_lines = ArePosted-both s.said (line_events t.says) s.lines t.posted.posts s.are t.posted.are;
      no_more = NoneBehind-last (s.lines ++ t.posted.posts) last (NoneEnded-both s.lines t.posted.posts s.none t.none) (omega (arith, one_post _ last posted));
      ends = inr (inl (posted, all_lines_said text kept all line number start now mid s t is one, over));
    }
quits_behind end.Full Over text kept all line number start now mid new source source' s t is one over (same, rose) =
    let front = grew_then start.posts now.posts mid.posts s.lines t.posted.posts s.grew t.posted.grew in
    record {
      said = s.said ++ line_events t.says;
      lines = s.lines ++ t.posted.posts;
      behind = [];
      grew = same ∙ front ∙ ap (λ (ps : List Post). start.posts ++ ps) (sym (append-nil (s.lines ++ t.posted.posts)));
      are_lines = ArePosted-both s.said (line_events t.says) s.lines t.posted.posts s.are t.posted.are;
      no_more = NoneBehind-last (s.lines ++ t.posted.posts) [] (NoneEnded-both s.lines t.posted.posts s.none t.none) (omega arith);
      ends = inr (
        refl,
        all_ended Over all (s.said ++ line_events t.says) over (all_lines_said text kept all line number start now mid s t is one),
        subst (λ (n : ℕ). Rose n new.fulls) (t.posted.fulls ∙ s.fulls) rose,
      );
    }
quits_behind end.NoMemory Over text kept all line number start now mid new source source' s t is one over (same, rose) =
    let front = grew_then start.posts now.posts mid.posts s.lines t.posted.posts s.grew t.posted.grew in
    record {
      said = s.said ++ line_events t.says;
      lines = s.lines ++ t.posted.posts;
      behind = [];
      grew = same ∙ front ∙ ap (λ (ps : List Post). start.posts ++ ps) (sym (append-nil (s.lines ++ t.posted.posts)));
      are_lines = ArePosted-both s.said (line_events t.says) s.lines t.posted.posts s.are t.posted.are;
      no_more = NoneBehind-last (s.lines ++ t.posted.posts) [] (NoneEnded-both s.lines t.posted.posts s.none t.none) (omega arith);
      ends = (
        all_ended Over all (s.said ++ line_events t.says) over (all_lines_said text kept all line number start now mid s t is one),
        inr (refl, inr (subst (λ (n : ℕ). Rose n new.wants) (t.posted.wants ∙ s.wants) rose)),
      );
    }
quits_behind end.ReadFault Over text kept all line number start now mid new source source' s t is one over h = absurd h
quits_behind (end.Line n place) Over text kept all line number start now mid new source source' s t is one over h = absurd h
quits_behind end.Door Over text kept all line number start now mid new source source' s t is one over h = absurd h

script_ends : (e : ActorEnd) (Over : Type 0) (text kept all line : List ℕ) (number : ℕ) (start now new : DeskTold) (source source' : SourceTold) (s : Stands text kept number start now) → all ≡ s.whole ++ line → IsOneLine line → Over → TakesLast (script_line_of line) number now new e → EndsSo e Over all start new source source'
script_ends e Over text kept all line number start now new source source' s is one over (inl (mid, takes, quits)) =
    quits_behind e Over text kept all line number start now mid new source source' s (took line number now mid takes) is one over quits
script_ends e Over text kept all line number start now new source source' s is one over (inr takes) =
    line_ends e Over text kept all line line [] number start now new source source' s (at_last Over s.whole all line is one over) one takes

-- ---- a line that is too long

long_said : (said : List Event) (number : ℕ) (part behind_it : List ℕ) → IsOneLine part → line_bytes < length part → behind said (lines_say number (lines_of (part ++ behind_it))) ≡ record { events = said; stop = OutsideGrammar number line_bytes }
long_said said number [] behind_it one long = absurd (omega (arith, long))
long_said said number (b ∷ part) behind_it one long =
    let f = first-long b part behind_it one in
    ap (λ (ls : List (List ℕ)). behind said (lines_say number ls)) f.lines
    ∙ ap (behind said) (says_outside number f.first f.rest line_bytes (long_scripted f.first (omega (arith, f.long, long))))
    ∙ ap (λ (es : List Event). record { events = es; stop = OutsideGrammar number line_bytes }) (append-nil said)

long_ends : (Over : Type 0) (text kept all part behind_it : List ℕ) (number : ℕ) (start now new : DeskTold) (source source' : SourceTold) (s : Stands text kept number start now) → all ≡ s.whole ++ (part ++ behind_it) → IsOneLine part → line_bytes < length part → GivesUp now new → EndsSo (end.Line number line_bytes) Over all start new source source'
long_ends Over text kept all part behind_it number start now new source source' s is one long gives =
    let some : part ≢ [] = λ none. absurd (omega (arith, ap length none, long)) in
    let front : IsFront (s.whole ++ part) all = record { behind = behind_it; joined = is ∙ sym (append_assoc s.whole part behind_it) } in
    gave_up (end.Line number line_bytes) Over text kept all number start now new source source' s gives (λ posts posted. (
      ap script_of is ∙ s.goes_on (part ++ behind_it) ∙ long_said s.said number part behind_it one long,
      (
        s.whole ++ part,
        inr (inl (record { front = front; line = part; is = ap (λ (t : List ℕ). t ++ part) (sym (s.ends part one)); long = long })),
        number_of text kept part number start now s one some,
      ),
      posted,
    ))

-- ---- the whole way

-- what was read up to now, and where the operator stands in it
pub record Going (start now : DeskTold) (source source' : SourceTold) (lines : LinesRead) (number : ℕ) : Type 0 where
  pub text : List ℕ
  pub taken : Taken source.left source'.left text
  pub size : lines.count ≡ length text
  pub within : lines.count ≤ script_bytes
  pub faults : source'.faults ≡ source.faults
  pub ends : source.ends ≤ source'.ends
  pub stands : Stands text lines.kept number start now
  pub numbered : number + length lines.kept ≤ 1 + lines.count

pub Going-open : (start : DeskTold) (source : SourceTold) → Going start start source source (record { line = []; kept = []; count = 0 }) 1
Going-open start source = record {
  text = [];
  taken = Taken-nothing source.left;
  size = refl;
  within = omega arith;
  faults = refl;
  ends = omega arith;
  stands = Stands-open start;
  numbered = omega arith;
}

pub Going-line : (start now mid : DeskTold) (source source' source'' : SourceTold) (lines lines' : LinesRead) (number : ℕ) → Going start now source source' lines number → NextLine lines lines' source' source'' (Ok tt) → TakesLine (script_line_of lines'.line) number now mid (Ok tt) → Going start mid source source'' lines' (number + 1)
Going-line start now mid source source' source'' lines lines' number g next takes =
    let (is, one, fits) = next.gives in
    record {
      text = g.text ++ next.more;
      taken = Taken-more source.left source'.left source''.left g.text next.more g.taken next.taken;
      size = omega (arith, length-append g.text next.more, next.count, g.size);
      within = next.within;
      faults = next.unfailed (λ e. cc e) ∙ g.faults;
      ends = omega (arith, g.ends, next.ends_stay);
      stands = Stands-line g.text lines.kept next.more lines'.line lines'.kept number start now mid g.stands is one takes;
      numbered = omega (arith, ap length is, length-append lines.kept next.more, length-append lines'.line (10 ∷ lines'.kept), next.count, g.numbered);
    }

-- the operator ended so, and what it read
pub record Done (start new : DeskTold) (source source' : SourceTold) (count : ℕ) (e : ActorEnd) : Type 0 where
  pub did : OperatorDid source.left source'.left (counts_of start source) (counts_of new source') start.posts new.posts count e
  pub unfailed : e ≢ end.ReadFault → source'.faults ≡ source.faults

did : (start now new : DeskTold) (source source' source'' : SourceTold) (lines lines' : LinesRead) (number : ℕ) (result : Result (Unit {0}) NoLine) (e : ActorEnd) (g : Going start now source source' lines number) (next : NextLine lines lines' source' source'' result) →
    EndsSo e (ScriptOver source.left (g.text ++ next.more) (counts_of start source) (counts_of new source'')) (g.text ++ next.more) start new source source'' →
    (e ≢ end.ReadFault → result ≢ Err no_line.Fault) → Done start new source source'' lines'.count e
did start now new source source' source'' lines lines' number result e g next so other = record {
  did = record {
    text = g.text ++ next.more;
    read = Taken-more source.left source'.left source''.left g.text next.more g.taken next.taken;
    counted = omega (arith, length-append g.text next.more, next.count, g.size);
    said = so.said;
    lines = so.lines;
    behind = so.behind;
    grew = so.grew ∙ sym (append_assoc start.posts so.lines so.behind);
    are_lines = so.are_lines;
    no_more = so.no_more;
    ends = so.ends;
  };
  unfailed = λ not. next.unfailed (other not) ∙ g.faults;
}

abbrev ScriptOver-of : List ℕ → DeskTold → DeskTold → SourceTold → SourceTold → Type 0
ScriptOver-of text start new source source' = ScriptOver source.left text (counts_of start source) (counts_of new source')

pub Done-line : (start now new : DeskTold) (source source' source'' : SourceTold) (lines lines' : LinesRead) (number : ℕ) (e : ActorEnd) → Going start now source source' lines number → NextLine lines lines' source' source'' (Ok tt) → TakesLine (script_line_of lines'.line) number now new (Err e) → Done start new source source'' lines'.count e
Done-line start now new source source' source'' lines lines' number e g next takes =
    let (is, one, fits) = next.gives in
    let all = text_on g.text lines.kept g.stands.whole next.more (lines'.line ++ 10 ∷ lines'.kept) g.stands.text_is is in
    did start now new source source' source'' lines lines' number (Ok tt) e g next
    (line_ends e (ScriptOver-of (g.text ++ next.more) start new source source'') g.text lines.kept (g.text ++ next.more) lines'.line (lines'.line ++ 10 ∷ lines'.kept) (lines_of lines'.kept) number start now new source source'' g.stands (at_feed (ScriptOver-of (g.text ++ next.more) start new source source'') g.stands.whole (g.text ++ next.more) lines'.line lines'.kept all one) one takes)
    (λ not e. cc e)

-- a part of a line is the last of what was read
part_is : (start now : DeskTold) (lines lines' : LinesRead) (text more : List ℕ) (number : ℕ) (s : Stands text lines.kept number start now) → IsPart (lines.kept ++ more) lines' → text ++ more ≡ s.whole ++ lines'.line
part_is start now lines lines' text more number s part = text_on text lines.kept s.whole more lines'.line s.text_is (sym part.line)

part_one : (bytes : List ℕ) (lines' : LinesRead) → IsPart bytes lines' → IsOneLine lines'.line
part_one bytes lines' part = subst IsOneLine (sym part.line) part.one

pub Done-end : (why : NoLine) (start now new : DeskTold) (source source' source'' : SourceTold) (lines lines' : LinesRead) (number : ℕ) (e : ActorEnd) → Going start now source source' lines number → NextLine lines lines' source' source'' (Err why) → EndsAt why (script_line_of lines'.line) number now new e → Done start new source source'' lines'.count e
Done-end no_line.End start now new source source' source'' lines lines' number e g next takes =
    let (part, over) = next.gives in
    let since = IsOver-since source source' source'' g.text g.taken g.ends next.ends_stay over in
    did start now new source source' source'' lines lines' number (Err no_line.End) e g next
    (script_ends e (ScriptOver-of (g.text ++ next.more) start new source source'') g.text lines.kept (g.text ++ next.more) lines'.line number start now new source source'' g.stands
    (part_is start now lines lines' g.text next.more number g.stands part) (part_one (lines.kept ++ next.more) lines' part)
    (over_whole source.left source''.left (g.text ++ next.more) (Taken-more source.left source'.left source''.left g.text next.more g.taken next.taken) since.0, since.1) takes)
    (λ not e. cc e)
Done-end no_line.Fault start now new source source' source'' lines lines' number e g next (is, gives) =
    let (part, rose) = next.gives in
    subst (λ (e : ActorEnd). Done start new source source'' lines'.count e) (sym is)
    (did start now new source source' source'' lines lines' number (Err no_line.Fault) end.ReadFault g next
    (gave_up end.ReadFault (ScriptOver-of (g.text ++ next.more) start new source source'') g.text lines.kept (g.text ++ next.more) number start now new source source'' g.stands gives (λ posts posted. (
      part_said g.text lines.kept (g.text ++ next.more) lines'.line number start now g.stands (part_is start now lines lines' g.text next.more number g.stands part) (part_one (lines.kept ++ next.more) lines' part),
      subst (λ (n : ℕ). Rose n source''.faults) g.faults rose,
      posted,
    )))
    (λ not. absurd (not refl)))
Done-end no_line.Bound start now new source source' source'' lines lines' number e g next (is, gives) =
    let (part, bound) = next.gives in
    subst (λ (e : ActorEnd). Done start new source source'' lines'.count e) (sym is)
    (did start now new source source' source'' lines lines' number (Err no_line.Bound) end.Full g next
    (gave_up end.Full (ScriptOver-of (g.text ++ next.more) start new source source'') g.text lines.kept (g.text ++ next.more) number start now new source source'' g.stands gives (λ posts posted. inl (
      part_said g.text lines.kept (g.text ++ next.more) lines'.line number start now g.stands (part_is start now lines lines' g.text next.more number g.stands part) (part_one (lines.kept ++ next.more) lines' part),
      omega (arith, length-append g.text next.more, next.count, g.size, bound),
      posted,
    )))
    (λ not e. cc e))
Done-end no_line.Long start now new source source' source'' lines lines' number e g next (is, gives) =
    let (part, behind_it, joined, one, long) = next.gives in
    subst (λ (e : ActorEnd). Done start new source source'' lines'.count e) (sym is)
    (did start now new source source' source'' lines lines' number (Err no_line.Long) (end.Line number line_bytes) g next
    (long_ends (ScriptOver-of (g.text ++ next.more) start new source source'') g.text lines.kept (g.text ++ next.more) part behind_it number start now new source source'' g.stands
    (text_on g.text lines.kept g.stands.whole next.more (part ++ behind_it) g.stands.text_is joined) one long gives)
    (λ not e. cc e))
Done-end no_line.NoMemory start now new source source' source'' lines lines' number e g next (is, gives) =
    subst (λ (e : ActorEnd). Done start new source source'' lines'.count e) (sym is)
    (did start now new source source' source'' lines lines' number (Err no_line.NoMemory) end.NoMemory g next
    (gave_up end.NoMemory (ScriptOver-of (g.text ++ next.more) start new source source'') g.text lines.kept (g.text ++ next.more) number start now new source source'' g.stands gives (λ posts posted. (
      whole_ended (ScriptOver-of (g.text ++ next.more) start new source source'') g.text lines.kept (g.text ++ next.more) (lines.kept ++ next.more) number start now g.stands (text_on g.text lines.kept g.stands.whole next.more (lines.kept ++ next.more) g.stands.text_is refl),
      posted,
    )))
    (λ not e. cc e))

-- what is left to read and to take becomes less
pub Going-smaller : (source source' : SourceTold) (lines lines' : LinesRead) → NextLine lines lines' source source' (Ok tt) → (script_bytes - lines'.count) + length lines'.kept < (script_bytes - lines.count) + length lines.kept
Going-smaller source source' lines lines' next =
    let (is, one, fits) = next.gives in
    omega (arith, ap length is, length-append lines.kept next.more, length-append lines'.line (10 ∷ lines'.kept), next.count, next.within)

-- the number of a line is no greater than what was read
pub Going-number : (start now : DeskTold) (source source' : SourceTold) (lines : LinesRead) (number : ℕ) → Going start now source source' lines number → number < 4294967298
Going-number start now source source' lines number g = omega (arith, g.numbered, g.within)

-- ---- a line, by how it is read

pub TakesLine-said : (says : Line) (text : List ℕ) (number : ℕ) (old new : DeskTold) (result : Result (Unit {0}) ActorEnd) → script_line_of text ≡ Ok says → PostsAll (line_events says) (is_quit says) old new result → TakesLine (script_line_of text) number old new result
TakesLine-said says text number old new result is posts = subst (λ (o : Result Line ℕ). TakesLine o number old new result) (sym is) posts

abbrev ended_by : ActorEnd → Result (Unit {0}) ActorEnd
ended_by e = Err e

pub TakesLine-outside : (text : List ℕ) (number place : ℕ) (old new : DeskTold) (e : ActorEnd) → script_line_of text ≡ Err place → e ≡ end.Line number place → GivesUp old new → TakesLine (script_line_of text) number old new (Err e)
TakesLine-outside text number place old new e is same gives =
    subst (λ (o : Result Line ℕ). TakesLine o number old new (Err e)) (sym is) (ap ended_by same, gives)
