-- Laws of runs in progress.
use Rattle.std.proofs.Common.{if◌then◌else◌, ◌≡◌, ◌≢◌, ℕ, ◌+◌, ◌≤◌, Bool, true, false, ◌||◌, List, [], ◌∷◌, ◌++◌, length, take, Option, IfSome, refl, sym, ◌∙◌, ap, subst, append-nil, arith, ◌<◌}
use Rattle.std.proofs.KnownBytes.{Appends-trans, Appends-nil}
use Rattle.std.proofs.lemmas.Grind.{flat_map-append}
use Rattle.std.proofs.lemmas.List.{map-append}
use Rattle.std.proofs.lemmas.List.Folds.{list_any-append}
use Rattle.std.specs.Io.KnownBytes.{Consumes, Appends}
use Rattle.std.specs.List.{list_any}
use Rattle.script_io.proofs.Reading.{ReadSoFar-start, ReadSoFar-more, AreFirst-so_far, AreAll-so_far, BreakAtFault-so_far, BreakAt-so_far}
use Rattle.script_io.specs.Lines.{HasNoNewline, EndsLine, IsEnd, IsLimit, IsFault, Reader, ahead, fresh}
use Rattle.script_io.specs.Reading.{ReadSoFar}
use Rattle.script_io.specs.declared.ending.Ending.{Ending}
use Rattle.script_io.specs.declared.ending.Ending.TheVariants as ending
use Rattle.script_model.specs.Formula.{Meanings}
use Rattle.script_model.specs.Run.{Turn, IsTurn, unchanged, Chain, bytes_of, is_refused, lines_read, any_refused}
use Rattle.script_model.specs.Step.{Moment, Reply, Refusal, Refused, is_refusal, first_moment}
use Rattle.session.specs.declared.answer.Did.{Did}
use Rattle.session.specs.declared.answer.Did.TheVariants as did
use Rattle.script_graph.specs.Kept.{Kept}
use Rattle.script_graph.specs.State.{Stands}
use Rattle.session.specs.Taken.{AsksStabilize, Says, Takes, Stops}
use Rattle.script_run.proofs.Counting.{AreCounts-more}
use Rattle.script_run.proofs.Turns.{turn_tells, turn_is_alike}
use Rattle.script_run.specs.Counts.{Count, Counted, IsCount, count_at_first, turns_of}
use Rattle.script_run.specs.Progress.{Point, CourseSoFar, Progress}
use Rattle.script_run.specs.Running.{Outside, Ran, before_line, at_line, behind_turn}
use Rattle.script_run.specs.Saying.{is_refusal_said}
use Rattle.script_run.specs.Telling.{Behind, TellsRound, told_of, all_told}

or_false : (b : Bool) → (b || false) ≡ b
or_false true = refl
or_false false = refl

pub or_true : (b : Bool) → true ≡ (b || true)
or_true true = refl
or_true false = refl

-- ---- one turn more

pub Chain-more : (F : Meanings) (m end : Moment) (turns : List Turn) (t : Turn) → Chain F m turns end → t.before ≡ end → IsTurn F t → Chain F m (turns ++ t ∷ []) t.after
Chain-more F m end [] t h from it = (from ∙ sym h, it, refl)
Chain-more F m end (u ∷ turns) t h from it = (h.0, h.1, Chain-more F u.after end turns t h.2 from it)

turns_of-more : (counted : List Counted) (c : Counted) → turns_of (counted ++ c ∷ []) ≡ turns_of counted ++ c.turn ∷ []
turns_of-more counted c = map-append (λ (u : Counted). u.turn) counted (c ∷ [])

all_told-more : (behind : Behind) (counted : List Counted) (c : Counted) → all_told behind (counted ++ c ∷ []) ≡ all_told behind counted ++ told_of behind c
all_told-more behind counted c = flat_map-append (told_of behind) counted (c ∷ []) ∙ ap (λ l. all_told behind counted ++ l) (append-nil (told_of behind c))

pub any_refused-more : (turns : List Turn) (t : Turn) → any_refused (turns ++ t ∷ []) ≡ (any_refused turns || is_refused t)
any_refused-more turns t = list_any-append is_refused turns (t ∷ []) ∙ ap (λ b. any_refused turns || b) (or_false (is_refused t))

-- what was said tells whether there is a refusal
pub refusal-said : (F : Meanings) (t : Turn) (how : Did) → IsTurn F t → Says how t.replies → list_any is_refusal t.replies ≡ is_refusal_said how
refusal-said F t did.Blank is h = ap (list_any is_refusal) h
refusal-said F t did.Accepted is h = turn_is_alike F t h.0 h.1 is h.2 h.3
refusal-said F t (did.Refused n) is h = ap (list_any is_refusal) h.1

-- what the counts of accepted stabilizes tell of the turn over a line
takes_round : (F : Meanings) (m : Moment) (line : List ℕ) (old new : Kept) (buffer appended : List ℕ) (called calls : ℕ) (how : Did) → Stands F old m
    → (t : Takes F m line new buffer appended called calls how) → TellsRound old.accepted new.accepted t.turn.replies
takes_round F m line old new buffer appended called calls how stands t =
    subst (λ n. TellsRound n new.accepted t.turn.replies) (ap (λ (x : Moment). x.present.accepted) t.from ∙ stands.matches.accepted)
    (subst (λ n. TellsRound t.turn.before.present.accepted n t.turn.replies) t.stands.matches.accepted (turn_tells F t.turn t.is_turn))

-- a turn that a line led to, with its counts
abbrev counted_turn : Turn → Count → Count → Counted
counted_turn t was is = record { turn = t; was = was; is = is }

-- no count falls over a line, and that of builds rises in a stabilize alone
pub record CountsRise (line : List ℕ) (was is : Count) : Type 0 where
  pub calls : was.calls ≤ is.calls
  pub builds : was.builds ≤ is.builds
  pub quiet : (AsksStabilize line → ⊥) → is.builds ≡ was.builds

-- the counts of the turn over the line
turn_counts : (F : Meanings) (m : Moment) (line : List ℕ) (new : Kept) (buffer appended : List ℕ) (how : Did) (was is : Count)
    → (t : Takes F m line new buffer appended was.calls is.calls how) → CountsRise line was is → IsCount (counted_turn t.turn was is)
turn_counts F m line new buffer appended how was is t rise = record {
  later = rise.calls;
  within = t.within;
  built_later = rise.builds;
  quiet = λ none. rise.quiet (λ asks. none (subst AsksStabilize (sym t.over) asks));
}

-- the reader took a line off the bytes ahead, within the limit
pub record IsTaken (limit : ℕ) (old new : Reader) (before after : Option (List ℕ)) (line part : List ℕ) : Type 0 where
  pub bytes : Consumes (ahead old before) (ahead new after) part
  pub count : new.taken ≡ old.taken + length part
  pub within : new.taken ≤ limit
  pub few : length new.held ≤ 4096
  pub clear : HasNoNewline line
  pub ends : EndsLine line part (ahead new after)

-- a line more of the bytes
lines-more : (F : Meanings) (limit : ℕ) (before : Outside) (point new : Point) (counted : List Counted) (end : Moment) (line part : List ℕ)
    → CourseSoFar F limit before point counted end → IsTaken limit point.reader new.reader point.left new.left line part
    → IfSome before.left (λ bytes. ReadSoFar limit bytes new.reader new.left (lines_read (turns_of counted) ++ line ∷ []))
lines-more F limit before point new counted end line part c is =
    ReadSoFar-more limit before.left point.left new.left point.reader new.reader line part (lines_read (turns_of counted)) c.read is.bytes is.count is.within is.few is.clear is.ends

-- what one line more leads to, but for what the sink is given
Course-more : (F : Meanings) (limit : ℕ) (before : Outside) (point new : Point) (counted : List Counted) (end : Moment) (line part buffer appended : List ℕ) (how : Did)
    → CourseSoFar F limit before point counted end → (t : Takes F end line new.kept buffer appended point.count.calls new.count.calls how) → CountsRise line point.count new.count
    → IsTaken limit point.reader new.reader point.left new.left line part
    → new.refused ≡ (point.refused || is_refusal_said how) → CourseSoFar F limit before new (counted ++ counted_turn t.turn point.count new.count ∷ []) t.turn.after
Course-more F limit before point new counted end line part buffer appended how c t later is said =
    let last = counted_turn t.turn point.count new.count in
    let turns = turns_of-more counted last in
    record {
      chain = subst (λ ts. Chain F first_moment ts t.turn.after) (sym turns) (Chain-more F first_moment end (turns_of counted) t.turn c.chain t.from t.is_turn);
      stands = t.stands;
      counts = AreCounts-more (count_at_first before.calls) point.count counted last c.counts refl (turn_counts F end line new.kept buffer appended how point.count new.count t later);
      refused = ap any_refused turns ∙ any_refused-more (turns_of counted) t.turn ∙ ap (λ b. b || is_refused t.turn) c.refused
          ∙ ap (λ b. point.refused || b) (refusal-said F t.turn how t.is_turn t.says) ∙ sym said;
      read = subst (λ ls. IfSome before.left (λ bytes. ReadSoFar limit bytes new.reader new.left ls))
          (sym (ap lines_read turns ∙ map-append (λ (u : Turn). u.line) (turns_of counted) (t.turn ∷ []) ∙ ap (λ l. lines_read (turns_of counted) ++ l ∷ []) t.over))
          (lines-more F limit before point new counted end line part c is);
    }

-- what was printed of a turn
printed-is : (t : Turn) (buffer appended : List ℕ) → buffer ≡ [] → appended ≡ buffer ++ bytes_of t → appended ≡ bytes_of t
printed-is t buffer appended empty are = are ∙ ap (λ l. l ++ bytes_of t) empty

-- nothing is written behind a refusal
pub refusal_told : (behind : Behind) (quiet : (why : Refusal) (was is : Count) → behind (Refused why ∷ []) was is ≡ []) (number : ℕ) (was is : Count) (before after : ℕ)
    (appended : List ℕ) (replies : List Reply) → Says (did.Refused number) replies → TellsRound before after replies → appended ≡ appended ++ behind replies was is
refusal_told behind quiet number was is before after appended replies says round =
    sym (append-nil appended) ∙ ap (λ l. appended ++ l) (sym (ap (λ rs. behind rs was is) says.1 ∙ quiet says.0 was is))

-- one line more, and all that is written of it
pub Progress-more : (F : Meanings) (behind : Behind) (limit : ℕ) (before : Outside) (point new : Point) (line part buffer appended whole : List ℕ) (how : Did)
    → Progress F behind limit before point → ((m : Moment) → Stands F point.kept m → Takes F m line new.kept buffer appended point.count.calls new.count.calls how) → CountsRise line point.count new.count
    → IsTaken limit point.reader new.reader point.left new.left line part
    → new.refused ≡ (point.refused || is_refusal_said how) → buffer ≡ []
    → ((replies : List Reply) → Says how replies → TellsRound point.kept.accepted new.kept.accepted replies → whole ≡ appended ++ behind replies point.count new.count)
    → Appends point.written new.written whole → Progress F behind limit before new
Progress-more F behind limit before point new line part buffer appended whole how p takes later is said empty told written =
    let t = takes p.end p.course.stands in
    let last = counted_turn t.turn point.count new.count in
    let are = printed-is t.turn buffer appended empty t.printed in
    let same : whole ≡ told_of behind last = told t.turn.replies t.says (takes_round F p.end line point.kept new.kept buffer appended point.count.calls new.count.calls how p.course.stands t) ∙ ap (λ l. l ++ behind t.turn.replies point.count new.count) are in
    record {
      counted = p.counted ++ last ∷ [];
      end = t.turn.after;
      course = Course-more F limit before point new p.counted p.end line part buffer appended how p.course t later is said;
      written = subst (Appends before.written new.written) (sym (all_told-more behind p.counted last))
          (Appends-trans before.written point.written new.written (all_told behind p.counted) (told_of behind last) p.written (subst (Appends point.written new.written) same written));
    }

-- ---- how a run ends

-- the lines that were read, and no other one
no-other : (F : Meanings) (limit : ℕ) (before : Outside) (point : Point) (counted : List Counted) (end : Moment) → CourseSoFar F limit before point counted end
    → IfSome before.left (λ bytes. ReadSoFar limit bytes point.reader point.left (lines_read (turns_of counted) ++ []))
no-other F limit before point counted end c =
    subst (λ ls. IfSome before.left (λ bytes. ReadSoFar limit bytes point.reader point.left ls)) (sym (append-nil (lines_read (turns_of counted)))) c.read

-- one line more, of which the sink took a front of what is written
pub Ran-write_fault : (F : Meanings) (behind : Behind) (limit : ℕ) (before : Outside) (point new : Point) (line part buffer appended whole : List ℕ) (how : Did)
    → Progress F behind limit before point → ((m : Moment) → Stands F point.kept m → Takes F m line new.kept buffer appended point.count.calls new.count.calls how) → CountsRise line point.count new.count
    → IsTaken limit point.reader new.reader point.left new.left line part
    → new.refused ≡ (point.refused || is_refusal_said how) → buffer ≡ []
    → ((replies : List Reply) → Says how replies → TellsRound point.kept.accepted new.kept.accepted replies → whole ≡ appended ++ behind replies point.count new.count)
    → ((n : ℕ) × (n < length whole) × Appends point.written new.written (take n whole))
    → Ran F behind ending.WriteFault limit before (record { left = new.left; written = new.written; calls = new.count.calls })
Ran-write_fault F behind limit before point new line part buffer appended whole how p takes later is said empty told written =
    let t = takes p.end p.course.stands in
    let last = counted_turn t.turn point.count new.count in
    let are = printed-is t.turn buffer appended empty t.printed in
    let same : whole ≡ told_of behind last = told t.turn.replies t.says (takes_round F p.end line point.kept new.kept buffer appended point.count.calls new.count.calls how p.course.stands t) ∙ ap (λ l. l ++ behind t.turn.replies point.count new.count) are in
    let c = Course-more F limit before point new p.counted p.end line part buffer appended how p.course t later is said in
    record {
      course = record {
        counted = p.counted ++ last ∷ [];
        end = t.turn.after;
        chain = c.chain;
        reached = new.count;
        counts = c.counts;
        halted = [];
        stopped = (refl, refl);
      };
      read = AreFirst-so_far limit before.left new.left new.reader (lines_read (turns_of (p.counted ++ last ∷ [])) ++ []) (no-other F limit before new (p.counted ++ last ∷ []) t.turn.after c);
      written = record {
        earlier = p.counted;
        last = last;
        are = refl;
        size = written.0;
        short = subst (λ l. written.0 < length l) same written.1;
        appended = Appends-trans before.written point.written new.written (all_told behind p.counted) (take written.0 (told_of behind last)) p.written
            (subst (λ l. Appends point.written new.written (take written.0 l)) same written.2);
      };
    }

-- a line that found no memory, and left all as it was
pub stops_at_once : (F : Meanings) (m : Moment) (line : List ℕ) (old new : Kept) (called calls : ℕ) → new ≡ old → calls ≡ called → Stands F old m → Stops F m line new called calls
stops_at_once F m line old new called calls kept same stands = record {
  after = m;
  due = 0;
  halts = unchanged refl refl;
  stands = subst (λ k. Stands F k m) (sym kept) stands;
  within = omega (arith, same);
}

-- no memory for a line
pub Ran-no_memory : (F : Meanings) (behind : Behind) (limit : ℕ) (before : Outside) (point new : Point) (line part : List ℕ)
    → Progress F behind limit before point → ((m : Moment) → Stands F point.kept m → Stops F m line new.kept point.count.calls new.count.calls) → CountsRise line point.count new.count
    → IsTaken limit point.reader new.reader point.left new.left line part → Ran F behind ending.Memory limit before (record { left = new.left; written = point.written; calls = new.count.calls })
Ran-no_memory F behind limit before point new line part p stops later is =
    let s = stops p.end p.course.stands in
    record {
      course = record {
        counted = p.counted;
        end = p.end;
        chain = p.course.chain;
        reached = point.count;
        counts = p.course.counts;
        halted = line ∷ [];
        stopped = at_line line s.after s.due refl s.halts later.calls s.within;
      };
      read = AreFirst-so_far limit before.left new.left new.reader (lines_read (turns_of p.counted) ++ line ∷ []) (lines-more F limit before point new p.counted p.end line part p.course is);
      written = p.written;
    }

-- no memory for what stands behind a turn
pub Ran-no_memory_behind : (F : Meanings) (behind : Behind) (limit : ℕ) (before : Outside) (point new : Point) (line part buffer appended : List ℕ) (how : Did)
    → Progress F behind limit before point → ((m : Moment) → Stands F point.kept m → Takes F m line new.kept buffer appended point.count.calls new.count.calls how) → CountsRise line point.count new.count
    → IsTaken limit point.reader new.reader point.left new.left line part → buffer ≡ []
    → ((replies : List Reply) → Says how replies → TellsRound point.kept.accepted new.kept.accepted replies → behind replies point.count new.count ≢ [])
    → Ran F behind ending.Memory limit before (record { left = new.left; written = point.written; calls = new.count.calls })
Ran-no_memory_behind F behind limit before point new line part buffer appended how p takes later is empty wanted =
    let t = takes p.end p.course.stands in
    let last = counted_turn t.turn point.count new.count in
    record {
      course = record {
        counted = p.counted;
        end = p.end;
        chain = p.course.chain;
        reached = point.count;
        counts = p.course.counts;
        halted = line ∷ [];
        stopped = behind_turn last (ap (λ l. l ∷ []) (sym t.over)) t.from t.is_turn (turn_counts F p.end line new.kept buffer appended how point.count new.count t later) refl refl
            (wanted t.turn.replies t.says (takes_round F p.end line point.kept new.kept buffer appended point.count.calls new.count.calls how p.course.stands t));
      };
      read = AreFirst-so_far limit before.left new.left new.reader (lines_read (turns_of p.counted) ++ line ∷ []) (lines-more F limit before point new p.counted p.end line part p.course is);
      written = p.written;
    }

-- the input came to its end
ended : (F : Meanings) (behind : Behind) (limit : ℕ) (before : Outside) (point : Point) (left : Option (List ℕ)) (reader : Reader) (part : List ℕ) (refused : Bool)
    → point.refused ≡ refused → Progress F behind limit before point → Consumes (ahead point.reader point.left) (ahead reader left) part → IsEnd reader (ahead reader left) part
    → Ran F behind (if refused then ending.Refused else ending.Accepted) limit before (record { left = left; written = point.written; calls = point.count.calls })
ended F behind limit before point left reader part true is p bytes end = record {
  course = record {
    counted = p.counted;
    end = p.end;
    chain = p.course.chain;
    reached = point.count;
    counts = p.course.counts;
    halted = [];
    stopped = (refl, refl);
  };
  read = AreAll-so_far limit before.left point.left left point.reader reader part (lines_read (turns_of p.counted) ++ []) (no-other F limit before point p.counted p.end p.course) bytes end;
  written = (p.written, p.course.refused ∙ is);
}
ended F behind limit before point left reader part false is p bytes end = record {
  course = record {
    counted = p.counted;
    end = p.end;
    chain = p.course.chain;
    reached = point.count;
    counts = p.course.counts;
    halted = [];
    stopped = (refl, refl);
  };
  read = AreAll-so_far limit before.left point.left left point.reader reader part (lines_read (turns_of p.counted) ++ []) (no-other F limit before point p.counted p.end p.course) bytes end;
  written = (p.written, p.course.refused ∙ is);
}

pub Ran-at_end : (F : Meanings) (behind : Behind) (limit : ℕ) (before : Outside) (point : Point) (left : Option (List ℕ)) (reader : Reader) (part : List ℕ) (e : Ending)
    → e ≡ (if point.refused then ending.Refused else ending.Accepted)
    → Progress F behind limit before point → Consumes (ahead point.reader point.left) (ahead reader left) part → IsEnd reader (ahead reader left) part
    → Ran F behind e limit before (record { left = left; written = point.written; calls = point.count.calls })
Ran-at_end F behind limit before point left reader part e is p bytes end =
    subst (λ x. Ran F behind x limit before (record { left = left; written = point.written; calls = point.count.calls })) (sym is) (ended F behind limit before point left reader part point.refused refl p bytes end)

-- the source failed
pub Ran-read_fault : (F : Meanings) (behind : Behind) (limit : ℕ) (before : Outside) (point : Point) (left : Option (List ℕ)) (reader : Reader) (part : List ℕ)
    → Progress F behind limit before point → Consumes (ahead point.reader point.left) (ahead reader left) part → reader.taken ≡ point.reader.taken + length part
    → reader.taken ≤ limit → length reader.held ≤ 4096 → IsFault reader part
    → Ran F behind ending.ReadFault limit before (record { left = left; written = point.written; calls = point.count.calls })
Ran-read_fault F behind limit before point left reader part p bytes count within few is = record {
  course = record {
    counted = p.counted;
    end = p.end;
    chain = p.course.chain;
    reached = point.count;
    counts = p.course.counts;
    halted = [];
    stopped = (refl, refl);
  };
  read = BreakAtFault-so_far limit before.left point.left left point.reader reader part (lines_read (turns_of p.counted) ++ []) (no-other F limit before point p.counted p.end p.course) bytes count within few is;
  written = p.written;
}

-- the limit was reached, and another byte came
pub Ran-limit : (F : Meanings) (behind : Behind) (limit : ℕ) (before : Outside) (point : Point) (left : Option (List ℕ)) (reader : Reader) (part : List ℕ)
    → Progress F behind limit before point → Consumes (ahead point.reader point.left) (ahead reader left) part → reader.taken ≡ point.reader.taken + length part
    → reader.taken ≤ limit → length reader.held ≤ 4096 → IsLimit reader limit part
    → Ran F behind ending.Limit limit before (record { left = left; written = point.written; calls = point.count.calls })
Ran-limit F behind limit before point left reader part p bytes count within few is = record {
  course = record {
    counted = p.counted;
    end = p.end;
    chain = p.course.chain;
    reached = point.count;
    counts = p.course.counts;
    halted = [];
    stopped = (refl, refl);
  };
  read = BreakAt-so_far limit before.left point.left left point.reader reader part (lines_read (turns_of p.counted) ++ []) (no-other F limit before point p.counted p.end p.course) bytes count within few is;
  written = p.written;
}

-- ---- how a run begins

-- a run that has read nothing
pub Progress-start : (F : Meanings) (behind : Behind) (limit : ℕ) (before : Outside) (reader : Reader) (kept : Kept) (count : Count) → Stands F kept first_moment
    → reader ≡ fresh → count ≡ count_at_first before.calls
    → Progress F behind limit before (record { reader = reader; left = before.left; written = before.written; kept = kept; count = count; refused = false })
Progress-start F behind limit before reader kept count stands none same = record {
  counted = [];
  end = first_moment;
  course = record { chain = refl; stands = stands; counts = sym same; refused = refl; read = ReadSoFar-start limit before.left reader none };
  written = Appends-nil before.written;
}

-- no memory before anything was read
pub Ran-nothing : (F : Meanings) (behind : Behind) (limit : ℕ) (before : Outside) (calls : ℕ) → calls ≡ before.calls
    → Ran F behind ending.Memory limit before (record { left = before.left; written = before.written; calls = calls })
Ran-nothing F behind limit before calls same = record {
  course = record {
    counted = [];
    end = first_moment;
    chain = refl;
    reached = count_at_first before.calls;
    counts = refl;
    halted = [];
    stopped = before_line refl same;
  };
  read = AreFirst-so_far limit before.left before.left fresh [] (ReadSoFar-start limit before.left fresh refl);
  written = Appends-nil before.written;
}
