-- The lines of a source are read, one piece after another.
use Rattle.std.proofs.Common.{◌≡◌, ℕ, ◌+◌, ◌-◌, ◌≤◌, true, false, List, [], ◌∷◌, ◌++◌, length, length-append, take, drop, drop-drop, Option, Some, None, Ok, Err, refl, sym, ◌∙◌, ap, subst, append_assoc, arith}
use Rattle.std.specs.Prelude.{⊤, MatchOption}
use Rattle.std.proofs.lemmas.List.{append-nil, drop-take, length-take}
use Rattle.text_lines.specs.Lines.{IsOneLine}
use Rattle.text_lines.proofs.Lines.{IsOneLine-both}
use Rattle.outside.specs.Told.{Taken}
use Rattle.outside.proofs.Writing.{Rose-wider}
use Rattle.line_grammar.specs.Reading.{line_bytes}
use Rattle.source_lines.specs.Limits.{source_bytes}
use Rattle.source_lines.specs.Reads.{LinesRead, SourceTold, TakesKept, ReadsPiece, IsOver, IsPart, NextLine, NothingLeftOf}
use Rattle.source_lines.specs.declared.no_line.NoLine.{NoLine}
use Rattle.source_lines.specs.declared.no_line.NoLine.TheVariants as no_line

-- ---- what is taken off a source

pub Taken-nothing : (left : Option (List ℕ)) → Taken left left []
Taken-nothing None = tt
Taken-nothing (Some bytes) = (bytes, refl, refl)

pub Taken-more : (a b c : Option (List ℕ)) (xs ys : List ℕ) → Taken a b xs → Taken b c ys → Taken a c (xs ++ ys)
Taken-more None b c xs ys first second = tt
Taken-more (Some old) None c xs ys first second = absurd (cc (first.2))
Taken-more (Some old) (Some mid) c xs ys first second =
    let rest : mid ≡ first.0 = cc (first.2) in
    (second.0, first.1 ∙ ap (λ (bs : List ℕ). xs ++ bs) (sym rest ∙ second.1) ∙ sym (append_assoc xs ys second.0), second.2)

pub Taken-same : (a b c : Option (List ℕ)) (xs : List ℕ) → Taken a b xs → c ≡ b → Taken a c xs
Taken-same None b c xs first same = tt
Taken-same (Some old) b c xs first same = (first.0, first.1, same ∙ first.2)

over_since : (a b c : Option (List ℕ)) (xs : List ℕ) → Taken a b xs → NothingLeftOf b c → NothingLeftOf a c
over_since None b c xs first over = tt
over_since (Some old) None c xs first over = absurd (cc (first.2))
over_since (Some old) (Some mid) c xs first over = over

-- where nothing is left, what was taken is all that was left
pub over_whole : (a b : Option (List ℕ)) (xs : List ℕ) → Taken a b xs → NothingLeftOf a b → MatchOption a ⊤ (λ all. all ≡ xs)
over_whole None b xs taken over = tt
over_whole (Some old) None xs taken over = absurd (cc (taken.2))
over_whole (Some old) (Some mid) xs taken over =
    let rest : mid ≡ taken.0 = cc (taken.2) in
    taken.1 ∙ ap (λ (bs : List ℕ). xs ++ bs) (sym rest ∙ over) ∙ append-nil xs

-- what is over has been over since earlier
pub IsOver-since : (a b c : SourceTold) (xs : List ℕ) → Taken a.left b.left xs → a.ends ≤ b.ends → b.ends ≤ c.ends → IsOver b c → IsOver a c
IsOver-since a b c xs taken earlier later over =
    (over_since a.left b.left c.left xs taken over.0, Rose-wider a.ends b.ends c.ends c.ends earlier later over.1 (omega arith))

-- ---- lines

-- what is behind the front of what is kept of a piece
pub kept_rest : (piece : List ℕ) (at end used : ℕ) → used ≤ length (take (end - at) (drop at piece)) → drop used (take (end - at) (drop at piece)) ≡ take (end - (at + used)) (drop (at + used) piece)
kept_rest piece at end used within =
    let size : end - at ≡ used + (end - (at + used)) = omega (arith, within, length-take (end - at) (drop at piece)) in
    rw size (drop-take used (end - (at + used)) (drop at piece) ∙ ap (take (end - (at + used))) (drop-drop used at piece))

-- what was read since the line began: all of it is in the line and in what is kept
pub record Gathered (start now : LinesRead) (source source' : SourceTold) : Type 0 where
  pub more : List ℕ
  pub taken : Taken source.left source'.left more
  pub count : now.count ≡ start.count + length more
  pub within : now.count ≤ source_bytes
  pub joined : start.kept ++ more ≡ now.line ++ now.kept
  pub one : IsOneLine now.line
  pub fits : length now.line ≤ line_bytes
  pub faults : source'.faults ≡ source.faults
  pub ends : source.ends ≤ source'.ends

pub Gathered-open : (start now : LinesRead) (source : SourceTold) → start.count ≤ source_bytes → now ≡ record start { line = [] } → Gathered start now source source
Gathered-open start now source within is =
    let begun : Gathered start (record start { line = [] }) source source = record {
      more = [];
      taken = Taken-nothing source.left;
      count = omega arith;
      within = within;
      joined = append-nil start.kept;
      one = refl;
      fits = omega arith;
      faults = refl;
      ends = omega arith;
    } in
    subst (λ (n : LinesRead). Gathered start n source source) (sym is) begun

-- all that is kept goes to the line
pub Gathered-kept : (start now mid : LinesRead) (source source' : SourceTold) → Gathered start now source source' → TakesKept now mid (Ok false) → Gathered start mid source source'
Gathered-kept start now mid source source' g takes =
    let joined = takes.0 in
    record {
      more = g.more;
      taken = g.taken;
      count = joined.count ∙ g.count;
      within = omega (arith, joined.count, g.within);
      joined = g.joined ∙ sym joined.line ∙ sym (append-nil mid.line) ∙ ap (λ (bs : List ℕ). mid.line ++ bs) (sym takes.1);
      one = subst IsOneLine (sym joined.line) (IsOneLine-both now.line now.kept g.one joined.one);
      fits = joined.fits g.fits;
      faults = g.faults;
      ends = g.ends;
    }

-- a line is whole
pub NextLine-whole : (start now new : LinesRead) (source source' : SourceTold) → Gathered start now source source' → TakesKept now new (Ok true) → NextLine start new source source' (Ok tt)
NextLine-whole start now new source source' g (part, joined, is) = record {
  more = g.more;
  taken = g.taken;
  count = joined.count ∙ g.count;
  within = omega (arith, joined.count, g.within);
  unfailed = λ other. g.faults;
  ends_stay = g.ends;
  gives = (
    g.joined ∙ ap (λ (bs : List ℕ). now.line ++ bs) is ∙ sym (append_assoc now.line part (10 ∷ new.kept)) ∙ ap (λ (bs : List ℕ). bs ++ 10 ∷ new.kept) (sym joined.line),
    subst IsOneLine (sym joined.line) (IsOneLine-both now.line part g.one joined.one),
    joined.fits g.fits,
  );
}

-- a line is too long, or there was no memory for it
pub NextLine-unkept : (start now new : LinesRead) (source source' : SourceTold) (why : NoLine) → Gathered start now source source' → TakesKept now new (Err why) → NextLine start new source source' (Err why)
NextLine-unkept start now new source source' no_line.End g takes = absurd takes
NextLine-unkept start now new source source' no_line.Fault g takes = absurd takes
NextLine-unkept start now new source source' no_line.Bound g takes = absurd takes
NextLine-unkept start now new source source' no_line.Long g (count, part, behind, is, one, long) = record {
  more = g.more;
  taken = g.taken;
  count = count ∙ g.count;
  within = omega (arith, count, g.within);
  unfailed = λ other. g.faults;
  ends_stay = g.ends;
  gives = (
    now.line ++ part,
    behind,
    g.joined ∙ ap (λ (bs : List ℕ). now.line ++ bs) is ∙ sym (append_assoc now.line part behind),
    IsOneLine-both now.line part g.one one,
    omega (arith, length-append now.line part, long),
  );
}
NextLine-unkept start now new source source' no_line.NoMemory g count = record {
  more = g.more;
  taken = g.taken;
  count = count ∙ g.count;
  within = omega (arith, count, g.within);
  unfailed = λ other. g.faults;
  ends_stay = g.ends;
  gives = tt;
}

-- all that was read since the line began is the line
all_line : (start now new : LinesRead) (source source' : SourceTold) (g : Gathered start now source source') → now.kept ≡ [] → new.line ≡ now.line → new.line ≡ start.kept ++ g.more
all_line start now new source source' g none line =
    line ∙ sym (append-nil now.line) ∙ ap (λ (bs : List ℕ). now.line ++ bs) (sym none) ∙ sym g.joined

part_of : (start now new : LinesRead) (source source' : SourceTold) (g : Gathered start now source source') → now.kept ≡ [] → new.line ≡ now.line → IsPart (start.kept ++ g.more) new
part_of start now new source source' g none line =
    let is = all_line start now new source source' g none line in
    record {
      line = is;
      one = subst IsOneLine (sym line ∙ is) g.one;
      fits = omega (arith, ap length (sym line ∙ is), g.fits);
    }

-- the next piece is kept
pub Gathered-piece : (start now new : LinesRead) (source source' source'' : SourceTold) → Gathered start now source source' → now.kept ≡ [] → new.line ≡ now.line → ReadsPiece now new source' source'' (Ok tt) → Gathered start new source source''
Gathered-piece start now new source source' source'' g none line (read, count, some, within) = record {
  more = g.more ++ new.kept;
  taken = Taken-more source.left source'.left source''.left g.more new.kept g.taken read.taken;
  count = omega (arith, length-append g.more new.kept, count, g.count);
  within = within;
  joined = sym (append_assoc start.kept g.more new.kept) ∙ ap (λ (bs : List ℕ). bs ++ new.kept) (sym (all_line start now new source source' g none line));
  one = subst IsOneLine (sym line) g.one;
  fits = omega (arith, ap length line, g.fits);
  faults = read.faults ∙ g.faults;
  ends = omega (arith, g.ends, read.ends);
}

-- no more is read
pub NextLine-unread : (start now new : LinesRead) (source source' source'' : SourceTold) (why : NoLine) → Gathered start now source source' → now.kept ≡ [] → new.line ≡ now.line → ReadsPiece now new source' source'' (Err why) → NextLine start new source source'' (Err why)
NextLine-unread start now new source source' source'' no_line.End g none line (read, count, over) = record {
  more = g.more;
  taken = subst (λ (bs : List ℕ). Taken source.left source''.left bs) (append-nil g.more) (Taken-more source.left source'.left source''.left g.more [] g.taken read.taken);
  count = count ∙ g.count;
  within = omega (arith, count, g.within);
  unfailed = λ other. read.faults ∙ g.faults;
  ends_stay = omega (arith, g.ends, read.ends);
  gives = (part_of start now new source source' g none line, IsOver-since source source' source'' g.more g.taken g.ends read.ends over);
}
NextLine-unread start now new source source' source'' no_line.Fault g none line (left, count, rose, ends) = record {
  more = g.more;
  taken = Taken-same source.left source'.left source''.left g.more g.taken left;
  count = count ∙ g.count;
  within = omega (arith, count, g.within);
  unfailed = λ other. absurd (other refl);
  ends_stay = omega (arith, g.ends, ends);
  gives = (part_of start now new source source' g none line, rw (← g.faults) rose);
}
NextLine-unread start now new source source' source'' no_line.Bound g none line (same, count, bound) = record {
  more = g.more;
  taken = Taken-same source.left source'.left source''.left g.more g.taken (ap (λ (s : SourceTold). s.left) same);
  count = count ∙ g.count;
  within = omega (arith, count, g.within);
  unfailed = λ other. ap (λ (s : SourceTold). s.faults) same ∙ g.faults;
  ends_stay = omega (arith, g.ends, ap (λ (s : SourceTold). s.ends) same);
  gives = (part_of start now new source source' g none line, bound);
}
NextLine-unread start now new source source' source'' no_line.Long g none line read = absurd read
NextLine-unread start now new source source' source'' no_line.NoMemory g none line read = absurd read
