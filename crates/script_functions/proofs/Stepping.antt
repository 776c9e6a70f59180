-- One more line is built.
use Rattle.std.proofs.Common.{arith, ◌≡◌, ◌≤◌, ◌<◌, ◌+◌, ◌++◌, ℕ, List, [], ◌∷◌, length, get_or, drop, take, Option}
use Rattle.std.proofs.Common.{inl, refl, subst, append_assoc}
use Rattle.std.proofs.lemmas.List.{append-nil, drop_all}
use Rattle.std.proofs.lemmas.List.Sums.{sum_by-cons}
use Rattle.std.specs.List.{AllZip}
use Rattle.inc_value.specs.Choice.{Every}
use Rattle.inc_value.specs.declared.function.FnKind.TheVariants as kind
use Rattle.inc_value.specs.declared.node.NodeId.{NodeId}
use Rattle.inc_value.specs.declared.ty.Ty.{Ty}
use Rattle.inc_value.specs.declared.value.Value.{Value}
use Rattle.inc_value.specs.Value.{type_of}
use Rattle.inc_terms.specs.Graph as graph
use Rattle.inc_terms.specs.Graph.{Def}
use Rattle.inc_terms.specs.Term.{Term, Step, Const}
use Rattle.inc_terms.specs.Within.{ValueWithin}
use Rattle.node_arena.specs.Building.{Building, Adds, Use, CallsListed, Weighs, Grows}
use Rattle.node_arena.specs.Listing.{Listed}
use Rattle.node_arena.specs.RightSide.{MayBuild, IsRoot}
use Rattle.node_arena.specs.Sound.{IsSoundArena}
use Rattle.node_arena.specs.Typing.{Fits}
use Rattle.node_arena.proofs.Growing.{grown_none, grown_more, grown_most, given_added, given_still, in_added}
use Rattle.node_arena.proofs.Growing.{fits_added, value_any}
use Rattle.node_arena.proofs.RightSides.{unfolds_grown}
use Rattle.script_functions.specs.Bodies as spec
use Rattle.script_functions.specs.Bodies.{all_terms, captured, line_types, side_of, IsWhole, term_at}
use Rattle.script_functions.specs.Filling.{node_of, filled, IsReady}
use Rattle.script_functions.specs.Lines.{line_size, line_uses, line_term, type_in, uses_of, LineHas}
use Rattle.script_functions.specs.Underway.{Reads, AreMade, AreBuilt, IsNoted, IsUnderWay}
use Rattle.script_functions.specs.declared.line.Line as lines
use Rattle.script_functions.specs.declared.line.Line.TheVariants as line
use Rattle.script_functions.specs.declared.line.Part as parts
use Rattle.script_functions.specs.declared.line.TypedLine.{TypedLine}
use Rattle.script_functions.proofs.Adding.{line_there}
use Rattle.script_functions.proofs.Calling.{AllIn, called, first_in, later_in}
use Rattle.script_functions.proofs.Lists.{drop_item, zip_more}
use Rattle.script_functions.proofs.Reading.{fits_kept, left_fits, line_reads, line_ready, part_is}

abbrev size_of_line : TypedLine → ℕ
size_of_line x = line_size x.line

-- ---- what a line's node calls, and counts as

every_any : {A : Type 0} (xs : List A) → Every (λ (x : A). Unit {0}) xs
every_any [] = tt
every_any (x ∷ xs) = (tt, every_any xs)

steps_any : (steps : List Step) → Every (λ (s : Step). ValueWithin (λ (n : NodeId). Unit {0}) s.value) steps
steps_any [] = tt
steps_any (s ∷ steps) = (value_any s.value, steps_any steps)

module _ (uses : List Use) (listed : List Listed) (T : parts.Part → Option Ty) (captures made : List NodeId) where
  line_calls : (x : lines.Line) (t : Ty) → LineHas listed T x t → AllIn (line_uses x) uses
      → CallsListed uses (filled listed captures made x)
  line_calls (line.Const v) t h all = value_any v
  line_calls (line.Map f ps) t h all = (called uses kind.Map (record { function = f; most = 0 }) all h.kind, every_any _)
  line_calls (line.Fold f v ps) t h all =
      (called uses kind.Map (record { function = f; most = 0 }) all h.kind, value_any v, every_any _)
  line_calls (line.If c x y) t h all = (tt, tt, tt)
  line_calls (line.Join p) t h all = tt
  line_calls (line.Bind l f most ps) t h all =
      (called uses kind.Rhs (record { function = f; most = most }) all h.kind, tt, every_any _)
  line_calls (line.At time) t h all = tt
  line_calls (line.Steps first steps) t h all = (value_any first, steps_any steps)
  line_calls line.Now t h all = tt

  line_weighs : (x : lines.Line) → AllIn (line_uses x) uses → Weighs uses (filled listed captures made x) (line_size x)
  line_weighs (line.Const v) all = omega arith
  line_weighs (line.Map f ps) all = omega arith
  line_weighs (line.Fold f v ps) all = omega arith
  line_weighs (line.If c x y) all = omega arith
  line_weighs (line.Join p) all = omega arith
  line_weighs (line.At time) all = omega arith
  line_weighs (line.Steps first steps) all = omega arith
  line_weighs line.Now all = omega arith
  line_weighs (line.Bind l f most ps) all = (record { function = f; most = most }, all _ (inl refl), refl, omega arith)

-- ---- what was made stays

module _ (b b' : Building) (id : NodeId) (def : Def) (t : Ty) (sound : IsSoundArena b.arena) (adds : Adds b b' id def t)
    (uses : List Use) (calls : CallsListed uses def) (w : ℕ) (weighs : Weighs uses def w) (captures : List NodeId) where
  still_reads : (n : NodeId) (term : Term) → Reads b captures n term → Reads b' captures n term
  still_reads n term h =
      let one = grown_more uses b b b' 0 (grown_none uses b) id def t adds calls w weighs in
      record {
        given = given_still b b' id def t adds n h.given;
        unfolds = unfolds_grown uses b b' (0 + w) sound one captures n term h.given h.unfolds;
      }

  all_still : (made : List NodeId) (terms : List Term) → AllZip (Reads b captures) made terms
      → AllZip (Reads b' captures) made terms
  all_still [] [] h = tt
  all_still [] (u ∷ terms) h = absurd h
  all_still (n ∷ made) [] h = absurd h
  all_still (n ∷ made) (u ∷ terms) h = (still_reads n u h.0, all_still made terms h.1)

  -- what reads back was given, so its row stays
  all_fit_still : (made : List NodeId) (terms : List Term) (types : List Ty) → AllZip (Reads b captures) made terms
      → AllZip (Fits b.arena) made types → AllZip (Fits b'.arena) made types
  all_fit_still [] terms [] r h = tt
  all_fit_still [] terms (u ∷ types) r h = absurd h
  all_fit_still (n ∷ made) terms [] r h = absurd h
  all_fit_still (n ∷ made) [] (u ∷ types) r h = absurd r
  all_fit_still (n ∷ made) (x ∷ terms) (u ∷ types) r h =
      (fits_kept b.arena b'.arena n u (adds.keeps n r.0.given) h.0, all_fit_still made terms types r.1 h.1)

  made_still : (made : List NodeId) (terms : List Term) (types : List Ty) → AreMade b captures made terms types
      → AreMade b' captures made terms types
  made_still made terms types h = record {
    read = all_still made terms h.read;
    fit = all_fit_still made terms types h.read h.fit;
  }

-- ---- one line more

module _ (body : spec.Body) (start : Building) (left : Value) (captures : List NodeId)
    (ready : MayBuild start body.draft.sig (side_of body) left captures) where
  abbrev uses : List Use
  uses = uses_of body.draft.lines

  abbrev listed : List Listed
  listed = body.draft.listed

  next_ready : (b : Building) (made : List NodeId) (x : TypedLine) (todo : List TypedLine)
      → IsUnderWay start b body left captures made (x ∷ todo)
      → IsReady b (filled listed captures made x.line) x.ty
  next_ready b made x todo way =
      line_ready body start left captures ready uses b way.taken way.grows made way.terms way.types way.made_so_far
      x.line x.ty way.typed.0

  one_more_line : (b b' : Building) (made made' : List NodeId) (x : TypedLine) (todo : List TypedLine) → IsSoundArena b.arena
      → IsUnderWay start b body left captures made (x ∷ todo)
      → IsNoted b b' made made' (filled listed captures made x.line) x.ty
      → IsUnderWay start b' body left captures made' todo
  one_more_line b b' made made' x todo sound way noted =
      let def : Def = filled listed captures made x.line in
      let T = type_in listed (captured body.draft.sig.takes) way.types in
      let mine = first_in (line_uses x.line) (uses_of todo) uses way.called in
      let calls = line_calls uses listed T captures made x.line x.ty way.typed.0 mine in
      let weighs = line_weighs uses listed T captures made x.line mine in
      let size = line_size x.line in
      let grows = grown_more uses start b b' way.taken way.grows noted.id def x.ty noted.adds calls size weighs in
      let so_far = made_still b b' noted.id def x.ty sound noted.adds uses calls size weighs captures made way.terms way.types
      way.made_so_far in
      let there = line_there T listed x.line x.ty way.typed.0 in
      let reads : Reads b' captures noted.id (line_term listed way.terms x.line) = record {
        given = given_added b b' noted.id def x.ty noted.adds;
        unfolds = line_reads body start left captures ready uses b' (way.taken + size) grows made way.terms way.types so_far
            noted.id x.line there (in_added b b' noted.id def x.ty noted.adds);
      } in
      let fits = fits_added b b' noted.id def x.ty noted.adds in
      record {
        terms = way.terms ++ line_term listed way.terms x.line ∷ [];
        types = way.types ++ x.ty ∷ [];
        taken = way.taken + size;
        grows = grows;
        sound = noted.adds.sound;
        made_so_far = rw noted.noted (record {
          read = zip_more (Reads b' captures) made way.terms noted.id _ so_far.read reads;
          fit = zip_more (Fits b'.arena) made way.types noted.id x.ty so_far.fit fits;
        });
        typed = way.typed.1;
        called = later_in (line_uses x.line) (uses_of todo) uses way.called;
        all_terms = way.all_terms;
        all_types = rw append_assoc way.all_types;
        all_taken = (let e = sum_by-cons size_of_line x todo in let a = way.all_taken in omega (arith, e, a));
      }

  -- ---- the line at a place, where the lines from there on are left

  module _ (lines : List TypedLine) (i : ℕ) (x : TypedLine) (within : i < length lines) (at_place : x ≡ get_or lines i x)
      (b : Building) (made : List NodeId) (way : IsUnderWay start b body left captures made (drop i lines)) where
    here : IsUnderWay start b body left captures made (x ∷ drop (i + 1) lines)
    here = subst (IsUnderWay start b body left captures made) (drop_item lines i x within at_place) way

    pub ready_at : IsReady b (filled listed captures made x.line) x.ty
    ready_at = next_ready b made x (drop (i + 1) lines) here

    pub one_more_at : (b' : Building) (made' : List NodeId) → IsSoundArena b.arena
        → IsNoted b b' made made' (filled listed captures made x.line) x.ty
        → IsUnderWay start b' body left captures made' (drop (i + 1) lines)
    one_more_at b' made' sound noted = one_more_line b b' made made' x (drop (i + 1) lines) sound here noted

  -- ---- at any time, and at the end

  pub grows_so_far : (b : Building) (made : List NodeId) (todo : List TypedLine)
      → IsUnderWay start b body left captures made todo → Grows uses start b (spec.size_of body.draft)
  grows_so_far b made todo way =
      grown_most uses start b way.taken (spec.size_of body.draft) way.grows (let a = way.all_taken in omega (arith, a))

  none_left : (b : Building) (made : List NodeId) → IsUnderWay start b body left captures made []
      → AreBuilt b body left captures made
  none_left b made way = rw (← way.all_terms, ← way.all_types, append-nil) way.made_so_far

  pub all_built : (b : Building) (made : List NodeId) (lines : List TypedLine) (i : ℕ) → length lines ≤ i
      → IsUnderWay start b body left captures made (drop i lines) → AreBuilt b body left captures made
  all_built b made lines i past way =
      none_left b made (subst (IsUnderWay start b body left captures made) (drop_all i lines past) way)

  -- ---- line 0

  pub left_ready : IsReady start (graph.Const left) (type_of left)
  left_ready = let f = left_fits start.arena left captures body.draft.sig.takes ready.taken in record {
    names = ready.left_given;
    types = record { type = refl; reference = f.3.reference };
  }

  pub line_zero : (b : Building) (made : List NodeId) → spec.IsTyped body.draft
      → IsNoted start b [] made (graph.Const left) (type_of left) → IsUnderWay start b body left captures made body.draft.lines
  line_zero b made typed noted =
      let adds = noted.adds in
      let f = left_fits start.arena left captures body.draft.sig.takes ready.taken in
      record {
        terms = Const left ∷ [];
        types = take 1 body.draft.sig.takes;
        taken = 0 + 1;
        grows = grown_more uses start start b 0 (grown_none uses start) noted.id (graph.Const left) (type_of left) adds
            (value_any left) 1 (omega arith);
        sound = adds.sound;
        made_so_far = rw (noted.noted, f.2) (record {
          read = (record { given = given_added start b noted.id _ _ adds; unfolds = in_added start b noted.id _ _ adds }, tt);
          fit = (rw (← f.3.type) (fits_added start b noted.id _ _ adds), tt);
        });
        typed = typed;
        called = λ u among. among;
        all_terms = refl;
        all_types = refl;
        all_taken = omega arith;
      }

  -- ---- the root

  pub root_is : (b : Building) (made : List NodeId) (most : ℕ) → IsWhole body → Grows uses start b most
      → AreBuilt b body left captures made
      → IsRoot b captures (node_of body.draft.listed captures made body.root) (term_at body left) body.draft.sig.gives
  root_is b made most whole grows built =
      part_is body start left captures ready uses b most grows made (all_terms body.draft left)
      (line_types body.draft.sig.takes body.draft.lines) built body.root body.draft.sig.gives whole.root
