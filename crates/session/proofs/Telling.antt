-- The lines of notices that a session writes are those of the model.
use Rattle.std.proofs.Common.{◌≡◌, ℕ, zero, suc, ◌+◌, ◌≤◌, true, List, [], ◌∷◌, ◌++◌, map, take, length, Option, None, Some, refl, ap, sym, subst, ◌∙◌, append-nil, arith, slice_get}
use Rattle.std.proofs.lemmas.List.{append_assoc}
use Rattle.std.proofs.lemmas.Option.{slice_get_within}
use Rattle.std.specs.List.{AllZip, flat_map}
use Rattle.std.specs.Prelude.{codes, Result, Ok, Err, OnOk}
use Rattle.inc_value.specs.declared.node.ObsId.{ObsId}
use Rattle.inc_value.specs.Outcome as engine
use Rattle.observers.specs.declared.notice.Notice.{Notice as GraphNotice}
use Rattle.observers.specs.declared.notice.Told.{Told}
use Rattle.script_model.specs.Check.{is_among, names_of}
use Rattle.script_model.specs.Formula.{State, Observer, Meanings}
use Rattle.script_model.specs.Settle.{Notice, First, Changed, TurnedInvalid}
use Rattle.script_model.specs.Step.{Moment, Tells, name_of, printed}
use Rattle.script_model.specs.Values.{Outcome, Val, printed_outcome}
use Rattle.script_graph.specs.Kept.{Kept, node_in}
use Rattle.script_graph.specs.Represents.{Watches}
use Rattle.script_graph.specs.Stabilizing.{IsNotice, NoticeRefersTo, graph_told, name_told}
use Rattle.script_graph.specs.State.{MatchesMoment}
use Rattle.script_graph.specs.Today.{IsDeclaredTarget, RefersTo}
use Rattle.script_graph.proofs.Ending.{among_place, get_at}
use Rattle.script_graph.proofs.Observing.{there_is_among}
use Rattle.transfer.specs.Both.{graph_outcome}
use Rattle.session.specs.Answered.{Extends}
use Rattle.session.proofs.Referred.{printed_same}
use Rattle.session.specs.Replies.{AreNoticeLines, IsNoticeLine, IsObserverName, IsReferredName, IsToldLine, line_of, referred_node}

-- ---- lines that are written one after the other

take_more : {A : Type 0} (xs : List A) (i : ℕ) (x : A) → slice_get xs i ≡ Some x → take (suc i) xs ≡ take i xs ++ x ∷ []
take_more [] i x is = absurd (cc)
take_more (y ∷ xs) zero x is = let same : y ≡ x = cc in ap (λ (z : _). z ∷ []) same
take_more (y ∷ xs) (suc i) x is = ap (λ (l : List _). y ∷ l) (take_more xs i x is)

take_all : {A : Type 0} (xs : List A) (i : ℕ) → length xs ≤ i → take i xs ≡ xs
take_all [] zero past = refl
take_all [] (suc i) past = refl
take_all (x ∷ xs) zero past = absurd (omega (arith, past))
take_all (x ∷ xs) (suc i) past = ap (λ (l : List _). x ∷ l) (take_all xs i (omega (arith, past)))

zip_push : {A B : Type 0} (R : A → B → Type 0) (xs : List A) (ys : List B) (x : A) (y : B) → AllZip R xs ys → R x y → AllZip R (xs ++ x ∷ []) (ys ++ y ∷ [])
zip_push R [] [] x y all last = (last, tt)
zip_push R [] (z ∷ ys) x y all last = absurd all
zip_push R (z ∷ xs) [] x y all last = absurd all
zip_push R (z ∷ xs) (w ∷ ys) x y all last = (all.0, zip_push R xs ys x y all.1 last)

join_push : (lines : List (List ℕ)) (line : List ℕ)
    → flat_map (λ (l : List ℕ). l) (lines ++ line ∷ []) ≡ flat_map (λ (l : List ℕ). l) lines ++ line
join_push [] line = append-nil line
join_push (l ∷ lines) line =
    ap (λ (r : List ℕ). l ++ r) (join_push lines line) ∙ sym (append_assoc l (flat_map (λ (x : List ℕ). x) lines) line)

module _ (k : Kept) (notices : List GraphNotice) (start : List ℕ) where
  -- the lines of so many notices were written
  pub record AreWritten (count : ℕ) (out : List ℕ) : Type 0 where
    pub lines : List (List ℕ)
    pub each : AllZip (IsNoticeLine k) (take count notices) lines
    pub written : out ≡ start ++ flat_map (λ (line : List ℕ). line) lines

  pub more_written : (i : ℕ) (n : GraphNotice) (out next line : List ℕ) → slice_get notices i ≡ Some n → AreWritten i out → IsNoticeLine k n line
      → next ≡ out ++ line → AreWritten (i + 1) next
  more_written i n out next line is w l added =
      let further : i + 1 ≡ suc i = omega arith in
      let next_taken : take (i + 1) notices ≡ take i notices ++ n ∷ [] = ap (λ (count : ℕ). take count notices) further ∙ take_more notices i n is in
      record {
        lines = w.lines ++ line ∷ [];
        each = subst (λ (ns : List GraphNotice). AllZip (IsNoticeLine k) ns (w.lines ++ line ∷ [])) (sym next_taken)
            (zip_push (IsNoticeLine k) (take i notices) w.lines n line w.each l);
        written = added ∙ (ap (λ (o : List ℕ). o ++ line) w.written
            ∙ (append_assoc start (flat_map (λ (x : List ℕ). x) w.lines) line ∙ ap (λ (l : List ℕ). start ++ l) (sym (join_push w.lines line))));
      }

  pub all_written : (i : ℕ) (out : List ℕ) → length notices ≤ i → AreWritten i out
      → (bytes : List ℕ) × AreNoticeLines k notices bytes × (out ≡ start ++ bytes)
  all_written i out past w = (
    flat_map (λ (line : List ℕ). line) w.lines,
    (w.lines, subst (λ (ns : List GraphNotice). AllZip (IsNoticeLine k) ns w.lines) (take_all notices i past) w.each, refl),
    w.written,
  )

-- ---- the model's lines

module _ (F : Meanings) (k : Kept) (m : Moment) (matches : MatchesMoment F k m) (unbroken : m.broken ≡ None) (each : length k.observers ≡ length k.names.observers) where
  abbrev s : State
  s = m.present

  w : Watches s k
  w = matches.watches

  -- the name of an observer that is there is the one in use
  named : (o : ObsId) (x : Observer) → slice_get matches.watches.made o.0 ≡ Some (Some x) → (bytes : List ℕ) → IsObserverName k o bytes → bytes ≡ x.name
  named o x at bytes is =
      let there : is_among (names_of s).observers x.name ≡ true =
      ap (λ (os : List Observer). is_among (map (λ (y : Observer). y.name) os) x.name) matches.watches.in_order
      ∙ there_is_among matches.watches.made o.0 x at in
      let place = among_place k.names.observers x.name (matches.names.in_use x.name ∙ there) in
      let low = slice_get_within k.names.observers place.0 x.name place.1 in
      let id = get_at k.observers place.0 o (omega (arith, low, each)) in
      let found = matches.watches.named place.0 _ x.name id place.1 in
      let same : _ ≡ o = matches.watches.apart _ o found.0 x found.1 at found.2 in
      is.0 place.0 x.name (id ∙ ap (λ (p : ObsId). Some p) same) place.1

  outcome_line : (referred : List ℕ) (p : Outcome) → RefersTo (IsDeclaredTarget s) p
      → IsReferredName k.names k.nodes (referred_node (graph_outcome (node_in k.nodes) p)) referred
      → engine.printed_outcome referred (graph_outcome (node_in k.nodes) p) ≡ printed_outcome (name_of s) p
  outcome_line referred p refers told = sym (printed_same F k m matches unbroken referred p refers told)

  told_line : (n : Notice) (name : List ℕ) → NoticeRefersTo (IsDeclaredTarget s) n → name ≡ name_told n → (line : List ℕ)
      → IsToldLine k name (graph_told (node_in k.nodes) n) line → line ≡ printed s (Tells n)
  told_line (First o p) name refers is line (referred, told, e) =
      e ∙ (ap (λ (b : List ℕ). line_of (b ++ codes " init " ++ engine.printed_outcome referred (graph_outcome (node_in k.nodes) p))) is
      ∙ ap (λ (b : List ℕ). line_of (o ++ codes " init " ++ b)) (outcome_line referred p refers told))
  told_line (Changed o was v) name refers is line (before, referred, told_before, told, e) =
      e ∙ (ap (λ (b : List ℕ). line_of (b ++ codes " change " ++ engine.printed_outcome before (graph_outcome (node_in k.nodes) was) ++ codes " "
      ++ engine.printed_outcome referred (graph_outcome (node_in k.nodes) (Val v)))) is
      ∙ (ap (λ (b : List ℕ). line_of (o ++ codes " change " ++ b ++ codes " " ++ engine.printed_outcome referred (graph_outcome (node_in k.nodes) (Val v))))
      (outcome_line before was refers.0 told_before)
      ∙ ap (λ (b : List ℕ). line_of (o ++ codes " change " ++ printed_outcome (name_of s) was ++ codes " " ++ b)) (outcome_line referred (Val v) refers.1 told)))
  told_line (TurnedInvalid o) name refers is line e = e ∙ ap (λ (b : List ℕ). line_of (b ++ codes " invalid")) is

  one_line : (t : GraphNotice) (n : Notice) (line : List ℕ) → IsNotice s k.nodes matches.watches.made t n → IsNoticeLine k t line → line ≡ printed s (Tells n)
  one_line t n line is written =
      told_line n written.observer is.refers (named t.observer is.observer is.is_there written.observer written.is_observer ∙ is.named) line
      (subst (λ (d : Told). IsToldLine k written.observer d line) is.same written.told)

  lines_are : (ts : List GraphNotice) (ns : List Notice) (lines : List (List ℕ)) → AllZip (IsNotice s k.nodes matches.watches.made) ts ns
      → AllZip (IsNoticeLine k) ts lines → flat_map (λ (line : List ℕ). line) lines ≡ flat_map (printed s) (map (λ n. Tells n) ns)
  lines_are [] [] [] told written = refl
  lines_are [] [] (line ∷ lines) told written = absurd written
  lines_are [] (n ∷ ns) lines told written = absurd told
  lines_are (t ∷ ts) [] lines told written = absurd told
  lines_are (t ∷ ts) (n ∷ ns) [] told written = absurd written
  lines_are (t ∷ ts) (n ∷ ns) (line ∷ lines) told written =
      ap (λ (l : List ℕ). l ++ flat_map (λ (x : List ℕ). x) lines) (one_line t n line told.0 written.0)
      ∙ ap (λ (l : List ℕ). printed s (Tells n) ++ l) (lines_are ts ns lines told.1 written.1)

  -- what is written of notices is what the model prints
  pub notices_are : (ns : List Notice) (bytes : List ℕ) → AllZip (IsNotice s k.nodes matches.watches.made) k.graph.notices ns
      → AreNoticeLines k k.graph.notices bytes → bytes ≡ flat_map (printed s) (map (λ n. Tells n) ns)
  notices_are ns bytes told (lines, written, e) = e ∙ lines_are k.graph.notices ns lines told written

-- ---- the name of an observer at the place that was found

pub named_at : (ids : List ObsId) (names : List (List ℕ)) (o : ObsId) (found : Option ℕ) → ((i : ℕ) → slice_get ids i ≡ Some o → found ≡ Some i)
    → (place : ℕ) → found ≡ Some place → (bytes : List ℕ) → slice_get names place ≡ Some bytes
    → (i : ℕ) (name : List ℕ) → slice_get ids i ≡ Some o → slice_get names i ≡ Some name → bytes ≡ name
named_at ids names o found tells place is bytes at i name id named =
    let same : Some place ≡ Some i = sym is ∙ tells i id in
    let there : place ≡ i = cc in
    let both : Some bytes ≡ Some name = sym at ∙ (ap (λ (n : ℕ). slice_get names n) there ∙ named) in cc

pub named_nowhere : (ids : List ObsId) (names : List (List ℕ)) (o : ObsId) (found : Option ℕ) → ((i : ℕ) → slice_get ids i ≡ Some o → found ≡ Some i)
    → found ≡ None → (bytes : List ℕ)
    → (i : ℕ) (name : List ℕ) → slice_get ids i ≡ Some o → slice_get names i ≡ Some name → bytes ≡ name
named_nowhere ids names o found tells is bytes i name id named = let none : None ≡ Some i = sym is ∙ tells i id in absurd (cc)

-- ---- an accepted stabilize's line, and those of its notices behind it

accepted_written : (k : Kept) (notices : List GraphNotice) (start stable mid out : List ℕ) → mid ≡ start ++ stable
    → (bytes : List ℕ) × AreNoticeLines k notices bytes × (out ≡ mid ++ bytes)
    → (bytes : List ℕ) × AreNoticeLines k notices bytes × (out ≡ start ++ (stable ++ bytes))
accepted_written k notices start stable mid out is (bytes, lines, written) =
    (bytes, lines, written ∙ (ap (λ (o : List ℕ). o ++ bytes) is ∙ append_assoc start stable bytes))

pub notices_written : {T E : Type 0} (r : Result T E) (k : Kept) (told notices : List GraphNotice) (start stable mid out : List ℕ)
    → told ≡ notices → mid ≡ start ++ stable
    → OnOk r ((bytes : List ℕ) × AreNoticeLines k told bytes × (out ≡ mid ++ bytes))
    → OnOk r ((bytes : List ℕ) × AreNoticeLines k notices bytes × (out ≡ start ++ (stable ++ bytes)))
notices_written (Ok x) k told notices start stable mid out same is written =
    accepted_written k notices start stable mid out is (subst (λ (ns : List GraphNotice). (bytes : List ℕ) × AreNoticeLines k ns bytes × (out ≡ mid ++ bytes)) same written)
notices_written (Err e) k told notices start stable mid out same is written = tt

pub accepted_in_part : (start stable mid out : List ℕ) → mid ≡ start ++ stable → Extends mid out → Extends start out
accepted_in_part start stable mid out is (more, written) =
    (stable ++ more, written ∙ (ap (λ (o : List ℕ). o ++ more) is ∙ append_assoc start stable more))
