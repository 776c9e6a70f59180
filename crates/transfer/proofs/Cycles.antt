-- A listed cycle of points passes a cycle of names.
use Rattle.std.proofs.Common.{◌≡◌, ◌⊎◌, inl, inr, ℕ, zero, suc, ◌+◌, ◌<◌, ◌≤◌, true, List, [], ◌∷◌, ◌++◌, length, Option, None, Some, refl, sym, ap, subst, ◌∙◌, arith}
use Rattle.std.specs.Prelude as std
use Rattle.inc_value.specs.declared.node.NodeId.{NodeId}
use Rattle.inc_value.specs.declared.node.Part.TheVariants.{Main as MainPart, Change as ChangePart}
use Rattle.inc_value.specs.declared.node.Point.{Point as GraphPoint}
use Rattle.inc_value.specs.declared.ty.Ty.{Ty}
use Rattle.inc_value.specs.Choice.{Among, NoRepeats, Every as Each}
use Rattle.inc_value.specs.Walk.{IsWalk as IsGraphWalk}
use Rattle.inc_terms.specs.Depend.{main, change, Depends as GraphDepends}
use Rattle.script_model.specs.Check.{target_of_body}
use Rattle.script_model.specs.Blocked.{ReadsName, at_once, through, NameReads, EachReads, LastIs, IsCycle}
use Rattle.script_model.specs.Depth.{Point, Main, Change}
use Rattle.script_model.specs.Formula as script
use Rattle.script_model.specs.Formula.{Formula, Body, Entry, State, Meanings, entry_at, body_at, Name, Bind, Computed, Freeze, Grab}
use Rattle.script_model.specs.Need.{Edge, Left, Inside, Item, Named, Place, formula_at, Reads, Met, StillStands}
use Rattle.script_model.specs.Valid.{HasType, Valid, KeepToTypes}
use Rattle.script_model.specs.Values.{Value}
use Rattle.script_model.proofs.Places.{met_stands}
use Rattle.transfer.specs.Both.{Both}
use Rattle.transfer.specs.Cycles.{DeclaredOwn, IsForm, PartsApart, IsOwnRoot, IsPassed, Passes, EndsAt}
use Rattle.transfer.specs.Items.{node_at, node_of, Covers, by_main, by_choice, by_left, by_variable, Closed, GrabsBind, FormulasStay}
use Rattle.transfer.specs.Keeping.{NodesApart}
use Rattle.transfer.specs.Laws.{CyclesAreNamed}
use Rattle.transfer.specs.Shows.{Built, IsOwn, Fits}
use Rattle.transfer.proofs.Carriers.{name_or}
use Rattle.transfer.proofs.Chains.{main_item, left_bind, variable_leads}
use Rattle.transfer.proofs.Commands.{own_target}
use Rattle.transfer.proofs.Enclosed.{Enclosed, read_enclosed, met_reads}
use Rattle.transfer.proofs.Ghosts.{form_row}
use Rattle.transfer.proofs.Going.{IsPart, IsSelf, Goes, to_part, to_own, to_left, part_read}
use Rattle.transfer.proofs.Leading.{OnPlaces, on_places, own_named, leads, left_in, Leads}
use Rattle.transfer.proofs.Owning.{Own, own_name, own_place, own_choice, own_left, own_grab, IsItself}
use Rattle.transfer.proofs.Numbers.{number}
use Rattle.transfer.proofs.Places.{part_above, place_shows}
use Rattle.transfer.proofs.Staying.{stands_own}
use Rattle.transfer.proofs.Reaching.{met_closed}
use Rattle.transfer.proofs.Typed.{body_entry, bind_body, body_typed, place_names, valid_grabs}

-- ---- one step within a set of items

abbrev formula_of_item : State → Item → Option Formula
formula_of_item s (Named k) = None
formula_of_item s (Place o r) = formula_at s o r

module _ (x : Both) (fits : Fits x) (keep : KeepToTypes x.meanings) (valid : Valid x.meanings x.state)
    (apart : NodesApart x.state x.nodes) (parts : PartsApart x) where
  abbrev D : GraphPoint → GraphPoint → Type 0
  D p q = GraphDepends x.functions x.graph x.died p q

  -- names that are their own targets have nodes of their own
  own_entry : (k : ℕ) → DeclaredOwn x k → (e : Entry) × (entry_at x.state k ≡ Some e) × (e.target ≡ k)
  own_entry k (b, is, own) =
      let e = body_entry x.state k b is in
      let target = (valid.entries k e.0 e.1).target_is in
      (e.0, e.1, target ∙ ap (λ (c : Body). target_of_body k c) e.2 ∙ own_target k b own)

  pub one_name : (j k : ℕ) → DeclaredOwn x j → DeclaredOwn x k → x.nodes j ≡ x.nodes k → j ≡ k
  one_name j k own own' same =
      let d = own_entry j own in let e = own_entry k own' in apart j k d.0 e.0 d.1 e.1 d.2 e.2 same

  -- what a grab is of is an earlier bind
  grab_bind : (k b : ℕ) (v : Value) (l : std.Bool) → body_at x.state k ≡ Some (Grab b v l)
      → (left : Formula) × (body : Formula) × (kept : script.Kept) × (body_at x.state b ≡ Some (Computed (Bind left body) kept)) × (b < k)
  grab_bind k b v l is =
      let h = (body_typed x.meanings x.state valid k (Grab b v l) is).1 in
      let bind = bind_body x.state b h.left h.body h.stands in
      (h.left, h.body, bind.0, bind.1, h.earlier)

  -- the node of a bind lives
  bind_lives : (b : ℕ) (left body : Formula) (kept : script.Kept) → body_at x.state b ≡ Some (Computed (Bind left body) kept)
      → x.graph.row (x.nodes b) ≡ None → ⊥
  bind_lives b left body kept is gone =
      form_row x (Built None) [] (x.nodes b) (Bind left body) tt (rw is at (fits.declared b)) gone

  itself_own : (c : Body) → IsItself (Some c) → IsOwn (Some c)
  itself_own (Computed f kept) self = absurd self
  itself_own c self = tt

  module _ (X : Item → Type 0) (places : OnPlaces x X) (stand : (i : Item) → X i → StillStands x.meanings x.state i)
      (R : ℕ → Type 0) (pass : (i : Item) (t : ℕ) → X i → Reads x.meanings x.state i (Named t) → R t) where
    -- the point of a top-level bind's node is the bind's whole formula's
    at_bind : (p : Point) (b : ℕ) (left body : Formula) (kept : script.Kept) → body_at x.state b ≡ Some (Computed (Bind left body) kept)
        → Own x X p (main (x.nodes b)) → p ≡ Main (Place b [])
    at_bind p b left body kept is (own_name k named self p_is P_is) =
        absurd (not_itself (body_at x.state k) refl self)
      where
        nodes : x.nodes b ≡ x.nodes k
        nodes = ap (λ (p : GraphPoint). p.node) P_is

        not_itself : (o : Option Body) → body_at x.state k ≡ o → IsItself o → ⊥
        not_itself None at self = bind_lives b left body kept is (rw nodes (rw at at (fits.declared k)).0)
        not_itself (Some c) at self =
            let same : b ≡ k = one_name b k (Computed (Bind left body) kept, is, tt) (c, at, itself_own c self) nodes in
            let bodies : Some c ≡ Some (Computed (Bind left body) kept) = sym at ∙ ap (body_at x.state) (sym same) ∙ is in
            let body_is : c ≡ Computed (Bind left body) kept = cc in
            rw body_is at self
    at_bind p b left body kept is (own_place owner path f n here f_is form at p_is P_is) =
        let nodes : x.nodes b ≡ n = ap (λ (p : GraphPoint). p.node) P_is in
        elim (parts owner path f n b (Computed (Bind left body) kept)
        (stands_own x keep valid owner path f f_is (stand (Place owner path) here)) f_is form at is tt nodes) [
          | inl (owners, paths, g, kept', rest) ↦ p_is ∙ ap (λ (i : Item). Main i) (ap (λ (o : ℕ). Place o path) owners
              ∙ ap (λ (r : List Edge). Place b r) paths)
          | inr (v, body_is, paths) ↦ absurd (cc)
        ]
    at_bind p b left body kept is (own_choice owner path f n here f_is choice at p_is P_is) =
        absurd (let e : MainPart ≡ ChangePart = ap (λ (p : GraphPoint). p.part) P_is in cc)
    at_bind p b left body kept is (own_left owner path l c n here f_is at p_is P_is) =
        absurd (let e : MainPart ≡ ChangePart = ap (λ (p : GraphPoint). p.part) P_is in cc)
    at_bind p b left body kept is (own_grab k c v named body_is p_is P_is) =
        let nodes : x.nodes b ≡ x.nodes k = ap (λ (p : GraphPoint). p.node) P_is in
        let same : b ≡ k = one_name b k (Computed (Bind left body) kept, is, tt) (Grab c v true, body_is, tt) nodes in
        absurd (let bodies : Some (Grab c v true) ≡ Some (Computed (Bind left body) kept) =
        sym body_is ∙ ap (body_at x.state) (sym same) ∙ is in cc)

    -- a point within the set, with a lower number, and no name is passed; or a name is
    pub data Next (p : Point) (P Q : GraphPoint) : Type 0 where
      stays : (q : Point) → Own x X q Q → number x.state q < number x.state p → ((k : ℕ) → IsPassed x P Q k → ⊥) → Next p P Q
      passes : (t : ℕ) → R t → IsPassed x P Q t → Next p P Q

    no_change : (P : GraphPoint) (n : NodeId) (Q : GraphPoint) → Q ≡ change n → (k : ℕ) → IsPassed x P Q k → ⊥
    no_change P n Q e k (own, is, root) =
        let parts : ChangePart ≡ MainPart = ap (λ (p : GraphPoint). p.part) (sym e ∙ is) in cc

    -- the item is the name, or a place at which it stands
    abbrev IsNameAt : Item → ℕ → Type 0
    IsNameAt j t = (j ≡ Named t) ⊎ ((o : ℕ) × (r : List Edge) × (j ≡ Place o r) × (formula_at x.state o r ≡ Some (Name t)))

    module _ (p : Point) (P Q : GraphPoint) (own : Own x X p P) (l : Leads x fits keep valid X places stand p P Q) where
      -- the right side that a bind's own main reads is no later name
      no_root : (t : ℕ) (j : Item) → IsPart x l.item p j → IsNameAt j t → IsOwnRoot x P t → ⊥
      no_root t j part named (b, v, is_live, grab, P_is) =
          let bind = grab_bind t b v is_live grab in
          let p_is = at_bind p b bind.0 bind.1 bind.2 bind.3 (rw P_is at own) in
          let i_is = l.top b p_is in
          let whole : formula_at x.state b [] ≡ Some (Bind bind.0 bind.1) = rw (bind.3) refl in
          let w = part.body bind.0 bind.1 b [] i_is p_is whole in
          let typed = (body_typed x.meanings x.state valid b (Computed (Bind bind.0 bind.1) bind.2) bind.3).1.0 in
          by_name bind.0 bind.1 bind.2 bind.3 bind.4 w.0 w.1 typed.0 _ typed.2 named
        where
          too_early : (b : ℕ) (u ty : Ty) (body : Formula) → HasType x.meanings x.state b (u ∷ []) body ty → body ≡ Name t → t < b
          too_early b u ty body typed e = (rw e at typed).earlier

          by_name : (left body : Formula) (kept : script.Kept) → body_at x.state b ≡ Some (Computed (Bind left body) kept) → b < t
              → (w : Value) → j ≡ Place b (Inside w ∷ []) → (u ty : Ty) → HasType x.meanings x.state b (u ∷ []) body ty
              → IsNameAt j t → ⊥
          by_name left body kept bind_is later w j_is u ty typed (inl e) = cc
          by_name left body kept bind_is later w j_is u ty typed (inr (o, r, j_is', f_is)) =
              let item : Place b (Inside w ∷ []) ≡ Place o r = sym j_is ∙ j_is' in
              let there : formula_at x.state b (Inside w ∷ []) ≡ Some (Name t) = subst (λ (i : Item). formula_of_item x.state i ≡ Some (Name t)) (sym item) f_is in
              let body_is : formula_at x.state b (Inside w ∷ []) ≡ Some body = rw bind_is refl in
              let same : Some body ≡ Some (Name t) = sym body_is ∙ there in
              let e : body ≡ Name t = cc in
              let early = too_early b u ty body typed e in
              omega (arith, early, later)

      -- a part that is a form stands within the set, and passes no name
      form_next : (o : ℕ) (r : List Edge) (f : Formula) (m : NodeId) → X (Place o r) → formula_at x.state o r ≡ Some f → IsForm f
          → node_at x o r ≡ Some m → Q ≡ main m → IsPart x l.item p (Place o r) → Next p P Q
      form_next o r f m is f_is form at Q_is part =
          stays (Main (Place o r)) (own_place o r f m is f_is form at refl Q_is) (part.lower o r refl) not_passed
        where
          not_passed : (k : ℕ) → IsPassed x P Q k → ⊥
          not_passed k ((b, b_is, b_own), k_is, root) =
              let nodes : x.nodes k ≡ m = ap (λ (p : GraphPoint). p.node) (sym k_is ∙ Q_is) in
              by_parts (parts o r f m k b (stands_own x keep valid o r f f_is (stand (Place o r) is)) f_is form at b_is b_own nodes)
            where
              by_parts : ((o ≡ k) × (r ≡ []) × (g : Formula) × (kept : script.Kept) × (b ≡ Computed g kept))
                  ⊎ ((v : Value) × (b ≡ Grab o v true) × (r ≡ Inside v ∷ [])) → ⊥
              by_parts (inl (owners, paths, g, kept, body_is)) =
                  let w = part.whole o (ap (λ (r : List Edge). Place o r) paths) in
                  let there : Some b ≡ Some (Freeze w.0 w.1 w.2) = sym b_is ∙ ap (body_at x.state) (sym owners) ∙ w.3 in
                  cc
              by_parts (inr (v, body_is, paths)) =
                  let grab : body_at x.state k ≡ Some (Grab o v true) = b_is ∙ ap (λ (b : Body). Some b) body_is in
                  let i = part.inside o v [] (ap (λ (r : List Edge). Place o r) paths) in
                  let n = l.main_of o [] i.0 i.1 in
                  let bind = grab_bind k o v true grab in
                  let there : node_at x o [] ≡ Some (x.nodes o) = rw (bind.3) refl in
                  let s : Some n.0 ≡ Some (x.nodes o) = sym n.1 ∙ there in
                  let same : n.0 ≡ x.nodes o = cc in
                  root (o, v, true, grab, n.2 ∙ ap main same)

      part_next : (j : Item) (m : NodeId) → (Reads x.meanings x.state l.item j ⊎ IsSelf l.item j) → node_of x j ≡ Some m → Q ≡ main m
          → ((t : ℕ) → j ≡ Named t → DeclaredOwn x t) → IsPart x l.item p j → Next p P Q
      part_next (Named t) m (inl read) at Q_is named part =
          let same : m ≡ x.nodes t = cc in
          passes t (pass l.item t l.is_in read)
          (named t refl, Q_is ∙ ap main same, no_root t (Named t) part (inl refl))
      part_next (Named t) m (inr (same, o, r, e)) at Q_is named part = absurd (cc)
      part_next (Place o r) m read at Q_is named part =
          let is = in_set read in
          let there = places.there o r is in
          elim (name_or there.0) [
            | inr form ↦ form_next o r there.0 m is there.1 form at Q_is part
            | inl (t, e) ↦ name_next t is (there.1 ∙ ap (λ (f : Formula). Some f) e)
          ]
        where
          in_set : (Reads x.meanings x.state l.item (Place o r) ⊎ IsSelf l.item (Place o r)) → X (Place o r)
          in_set (inl read) = places.reads l.item o r l.is_in read
          in_set (inr self) = rw (self.0) l.is_in

          name_next : (t : ℕ) → X (Place o r) → formula_at x.state o r ≡ Some (Name t) → Next p P Q
          name_next t is f_is =
              let shows = place_shows x fits o r m (Name t) f_is at in
              let same : m ≡ x.nodes t = cc in
              let read : Reads x.meanings x.state (Place o r) (Named t) = part_read x fits keep valid o r (Name t) 0 (Named t) f_is (inl refl) in
              let own_t = place_names x.meanings x.state valid o r (Name t) f_is in
              passes t (pass (Place o r) t is read)
              (own_t, Q_is ∙ ap main same, no_root t (Place o r) part (inr (o, r, refl, f_is)))

      goes_next : Goes x l.item p Q → Next p P Q
      goes_next (to_part j m read at Q_is depends named part) = part_next j m read at Q_is named part
      goes_next (to_own owner path f n i_is f_is choice at Q_is depends low) =
          stays (Change (Place owner path)) (own_choice owner path f n (rw i_is at l.is_in) f_is choice at refl Q_is) low
          (no_change P n Q Q_is)
      goes_next (to_left owner bind left body b left_of f_is at Q_is depends low) =
          stays (Change (Place owner bind)) (own_left owner bind left body b
          (left_in x fits keep valid X places stand l.item owner bind l.is_in left_of) f_is at refl Q_is) low (no_change P b Q Q_is)

    pub next : (p : Point) (P Q : GraphPoint) → Own x X p P → D P Q → Next p P Q
    next p P Q own dep =
        let l = leads x fits keep valid X places stand p P Q own dep in goes_next p P Q own l l.goes

-- ---- the names that a walk passes

-- items that are reached from a name by reads with no name between
pub data Within (F : Meanings) (s : State) (y : ℕ) : Item → Type 0 where
  begins : Within F s y (Named y)
  reads : {i : Item} → (o : ℕ) → (r : List Edge) → Within F s y i → Reads F s i (Place o r) → Within F s y (Place o r)

-- what they read the name reads
within_reads : (F : Meanings) (s : State) (y t : ℕ) (i : Item) → Within F s y i → ReadsName F s t i → NameReads F s y t
within_reads F s y t i begins read = read
within_reads F s y t i (reads {i = j} o r within first) read = within_reads F s y t j within (through o r first read)

-- a place of them, or any name
abbrev PlaceWithin : Meanings → State → ℕ → Item → Type 0
PlaceWithin F s y (Named k) = Unit {0}
PlaceWithin F s y (Place o r) = Within F s y (Place o r)

within_enclosed : (F : Meanings) (s : State) → GrabsBind s → (y : ℕ) (i : Item) → Within F s y i → Enclosed F s (PlaceWithin F s y) i
within_enclosed F s grabs y i begins = tt
within_enclosed F s grabs y i (reads {i = j} o r within first) =
    read_enclosed F s (PlaceWithin F s y) grabs j (Place o r) (λ k read. each k read) (within_enclosed F s grabs y j within) first
  where
    each : (k : Item) → Reads F s j k → PlaceWithin F s y k
    each (Named t) read = tt
    each (Place u v) read = reads u v within read

within_met : (F : Meanings) (before s : State) (y : ℕ) (i : Item) → Met F before s (Named y) → Within F s y i → Met F before s i
within_met F before s y i met begins = met
within_met F before s y i met (reads {i = j} o r within first) =
    met_reads F before s j (Place o r) (within_met F before s y j met within) first

module _ (x : Both) (fits : Fits x) (keep : KeepToTypes x.meanings) (valid : Valid x.meanings x.state)
    (apart : NodesApart x.state x.nodes) (parts : PartsApart x) (before : State) (grabs : GrabsBind before)
    (stay : FormulasStay before x.state) where
  abbrev M : Item → Type 0
  M i = Met x.meanings before x.state i

  abbrev W : ℕ → Item → Type 0
  W y i = Within x.meanings x.state y i

  now : GrabsBind x.state
  now = valid_grabs x.meanings x.state valid

  within_places : (y : ℕ) → OnPlaces x (W y)
  within_places y =
      record {
        reads = λ i o r within read. reads o r within read;
        lefts = λ owner path k bind within around.
            ((within_enclosed x.meanings x.state now y (Place owner path) within).1 k bind around).0;
        there = λ owner path within. (within_enclosed x.meanings x.state now y (Place owner path) within).0;
      }

  within_stands : (y : ℕ) → M (Named y) → (i : Item) → W y i → StillStands x.meanings x.state i
  within_stands y met i within = met_stands x.meanings before x.state i (within_met x.meanings before x.state y i met within)

  -- read by the name, and met
  abbrev ReadBy : ℕ → ℕ → Type 0
  ReadBy y t = NameReads x.meanings x.state y t × M (Named t)

  within_pass : (y : ℕ) → M (Named y) → (i : Item) (t : ℕ) → W y i → Reads x.meanings x.state i (Named t) → ReadBy y t
  within_pass y met i t within read = (
    within_reads x.meanings x.state y t i within (at_once read),
    met_reads x.meanings before x.state i (Named t) (within_met x.meanings before x.state y i met within) read,
  )

  -- the point of a name, within what it reads
  own_start : (t : ℕ) → DeclaredOwn x t → M (Named t) → (p : Point) × Own x (W t) p (main (x.nodes t))
  own_start t (b, is, own) met = (
    _,
    own_named x fits keep valid (W t) (within_places t) (within_stands t met) t (body_at x.state t) begins refl
        (subst IsOwn (sym is) own),
  )

  passed_once : (P Q : GraphPoint) (j k : ℕ) → IsPassed x P Q j → IsPassed x P Q k → j ≡ k
  passed_once P Q j k h g =
      one_name x fits keep valid apart parts j k h.0 g.0 (ap (λ (p : GraphPoint). p.node) (sym h.1 ∙ g.1))

  -- the names that are passed from a name on are each read by the one before
  pub run : (y : ℕ) → M (Named y) → (p : Point) (P : GraphPoint) → Own x (W y) p P → (rest : List GraphPoint) (names : List ℕ)
      → IsGraphWalk (λ P Q. GraphDepends x.functions x.graph x.died P Q) (P ∷ rest) → Passes x P rest names
      → EachReads x.meanings x.state y names × Each (λ k. M (Named k)) names
  run y met p P own [] names w none = rw none (tt, tt)
  run y met p P own (Q ∷ rest) names w passed =
      by_next (next x fits keep valid apart parts (W y) (within_places y) (within_stands y met) (ReadBy y) (within_pass y met) p P Q own w.0)
      passed (λ q q_own more. run y met q Q q_own rest names w.1 more)
      (λ t t_met q q_own more more_passed. run t t_met q Q q_own rest more w.1 more_passed)
    where
      by_next : Next x fits keep valid apart parts (W y) (within_places y) (within_stands y met) (ReadBy y) (within_pass y met) p P Q
          → Passes x P (Q ∷ rest) names
          → ((q : Point) → Own x (W y) q Q → Passes x Q rest names
          → EachReads x.meanings x.state y names × Each (λ k. M (Named k)) names)
          → ((t : ℕ) → M (Named t) → (q : Point) → Own x (W t) q Q → (more : List ℕ) → Passes x Q rest more
          → EachReads x.meanings x.state t more × Each (λ k. M (Named k)) more)
          → EachReads x.meanings x.state y names × Each (λ k. M (Named k)) names
      by_next (stays q q_own low not) (inl (none, more)) on anew = on q q_own more
      by_next (stays q q_own low not) (inr (k, more, names_are, is, later)) on anew = absurd (not k is)
      by_next (passes t read is) (inl (none, more)) on anew = absurd (none t is)
      by_next (passes t read is) (inr (k, more, names_are, is', later)) on anew =
          let same : t ≡ k = passed_once P Q t k is is' in
          let start = own_start t is.0 read.1 in
          let rest' = anew t read.1 start.0 (subst (λ (q : GraphPoint). Own x (W t) start.0 q) (sym is.1) start.1) more later in
          rw (names_are, ← same) ((read.0, rest'.0), (read.1, rest'.1))

  -- where the walk passes none, it is no longer than the number of its first point
  module _ (X : Item → Type 0) (places : OnPlaces x X) (stand : (i : Item) → X i → StillStands x.meanings x.state i)
      (R : ℕ → Type 0) (pass : (i : Item) (t : ℕ) → X i → Reads x.meanings x.state i (Named t) → R t) where
    pub no_longer : (p : Point) (P : GraphPoint) → Own x X p P → (rest : List GraphPoint)
        → IsGraphWalk (λ P Q. GraphDepends x.functions x.graph x.died P Q) (P ∷ rest) → Passes x P rest []
        → length rest ≤ number x.state p
    no_longer p P own [] w none = omega arith
    no_longer p P own (Q ∷ rest) w passed =
        by_next (next x fits keep valid apart parts X places stand R pass p P Q own w.0) passed
        (λ q q_own more. no_longer q Q q_own rest w.1 more)
      where
        by_next : Next x fits keep valid apart parts X places stand R pass p P Q → Passes x P (Q ∷ rest) []
            → ((q : Point) → Own x X q Q → Passes x Q rest [] → length rest ≤ number x.state q)
            → suc (length rest) ≤ number x.state p
        by_next (stays q q_own low not) (inl (none, more)) on = let short = on q q_own more in omega (arith, low, short)
        by_next (stays q q_own low not) (inr (k, more, names_are, is, later)) on = absurd (not k is)
        by_next (passes t read is) (inl (none, more)) on = absurd (none t is)
        by_next (passes t read is) (inr (k, more, names_are, is', later)) on = absurd (cc)

    -- the first name that is passed, and those behind it
    pub begin : ((t : ℕ) → R t → M (Named t)) → (p : Point) (P : GraphPoint) → Own x X p P → (rest : List GraphPoint) (names : List ℕ)
        → IsGraphWalk (λ P Q. GraphDepends x.functions x.graph x.died P Q) (P ∷ rest) → Passes x P rest names
        → (names ≡ []) ⊎ ((first : ℕ) × (more : List ℕ) × (names ≡ first ∷ more) × M (Named first)
        × EachReads x.meanings x.state first more × Each (λ k. M (Named k)) more)
    begin met p P own [] names w none = inl none
    begin met p P own (Q ∷ rest) names w passed =
        by_next (next x fits keep valid apart parts X places stand R pass p P Q own w.0) passed
        (λ q q_own more. begin met q Q q_own rest names w.1 more)
      where
        by_next : Next x fits keep valid apart parts X places stand R pass p P Q → Passes x P (Q ∷ rest) names
            → ((q : Point) → Own x X q Q → Passes x Q rest names
            → (names ≡ []) ⊎ ((first : ℕ) × (more : List ℕ) × (names ≡ first ∷ more) × M (Named first)
            × EachReads x.meanings x.state first more × Each (λ k. M (Named k)) more))
            → (names ≡ []) ⊎ ((first : ℕ) × (more : List ℕ) × (names ≡ first ∷ more) × M (Named first)
            × EachReads x.meanings x.state first more × Each (λ k. M (Named k)) more)
        by_next (stays q q_own low not) (inl (none, more)) on = on q q_own more
        by_next (stays q q_own low not) (inr (k, more, names_are, is, later)) on = absurd (not k is)
        by_next (passes t read is) (inl (none, more)) on = absurd (none t is)
        by_next (passes t read is) (inr (k, more, names_are, is', later)) on =
            let same : t ≡ k = passed_once P Q t k is is' in
            let t_met = met t read in
            let start = own_start t is.0 t_met in
            let rest' = run t t_met start.0 Q (subst (λ (q : GraphPoint). Own x (W t) start.0 q) (sym is.1) start.1) rest more w.1 later in
            inr (t, more, names_are ∙ ap (λ k. k ∷ more) (sym same), t_met, rest'.0, rest'.1)

-- ---- lists

module _ (x : Both) where
  abbrev Dep : GraphPoint → GraphPoint → Type 0
  Dep P Q = GraphDepends x.functions x.graph x.died P Q

  join_walk : (p q : GraphPoint) (xs ys : List GraphPoint) → IsGraphWalk Dep (p ∷ xs) → EndsAt q xs → IsGraphWalk Dep (q ∷ ys)
      → IsGraphWalk Dep (p ∷ xs ++ ys)
  join_walk p q [] ys w e v = absurd e
  join_walk p q (a ∷ []) ys w e v = first ys v
    where
      first : (ys : List GraphPoint) → IsGraphWalk Dep (q ∷ ys) → IsGraphWalk Dep (p ∷ a ∷ ys)
      first [] v = (w.0, tt)
      first (b ∷ ys) v = (w.0, (subst (λ (a : GraphPoint). Dep a b) (sym e) v.0, v.1))
  join_walk p q (a ∷ b ∷ rest) ys w e v = (w.0, join_walk a q (b ∷ rest) ys w.1 e v)

  join_passes : (p q : GraphPoint) (xs ys : List GraphPoint) (names more : List ℕ) → Passes x p xs names → EndsAt q xs
      → Passes x q ys more → Passes x p (xs ++ ys) (names ++ more)
  join_passes p q [] ys names more h e k = absurd e
  join_passes p q (a ∷ []) ys names more (inl (none, h)) e k = rw h (inl (none, subst (λ (a : GraphPoint). Passes x a ys more) (sym e) k))
  join_passes p q (a ∷ []) ys names more (inr (n, later, are, is, h)) e k =
      rw are (inr (n, later ++ more, refl, is, rw h (subst (λ (a : GraphPoint). Passes x a ys more) (sym e) k)))
  join_passes p q (a ∷ b ∷ rest) ys names more (inl (none, h)) e k = inl (none, join_passes a q (b ∷ rest) ys names more h e k)
  join_passes p q (a ∷ b ∷ rest) ys names more (inr (n, later, are, is, h)) e k =
      rw are (inr (n, later ++ more, refl, is, join_passes a q (b ∷ rest) ys later more h e k))

  -- the round walked so many times
  abbrev times : ℕ → List GraphPoint → List GraphPoint
  times zero C = []
  times (suc n) C = C ++ times n C

  times_walk : (P : GraphPoint) (C : List GraphPoint) → IsGraphWalk Dep (P ∷ C) → EndsAt P C → (n : ℕ) → IsGraphWalk Dep (P ∷ times n C)
  times_walk P C w e zero = tt
  times_walk P C w e (suc n) = join_walk P P C (times n C) w e (times_walk P C w e n)

  times_none : (P : GraphPoint) (C : List GraphPoint) → Passes x P C [] → EndsAt P C → (n : ℕ) → Passes x P (times n C) []
  times_none P C h e zero = refl
  times_none P C h e (suc n) = join_passes P P C (times n C) [] [] h e (times_none P C h e n)

  join_length : (xs ys : List GraphPoint) → length (xs ++ ys) ≡ length xs + length ys
  join_length [] ys = omega arith
  join_length (a ∷ xs) ys = let more = join_length xs ys in omega (arith, more)

  times_long : (Q : GraphPoint) (rest : List GraphPoint) (n : ℕ) → n ≤ length (times n (Q ∷ rest))
  times_long Q rest zero = omega arith
  times_long Q rest (suc n) =
      let more = times_long Q rest n in
      let all = join_length rest (times n (Q ∷ rest)) in
      omega (arith, more, all)

  -- each name that is passed is listed by its node
  listed : (p : GraphPoint) (rest : List GraphPoint) (names : List ℕ) (k : ℕ) → Passes x p rest names → Among k names
      → Among (main (x.nodes k)) rest
  listed p [] names k h among = absurd (rw h at among)
  listed p (q ∷ rest) names k (inl (none, h)) among = inr (listed q rest names k h among)
  listed p (q ∷ rest) names k (inr (n, more, are, is, h)) among = elim (rw are at among) [
    | inl e ↦ inl (ap (λ k. main (x.nodes k)) e ∙ sym is.1)
    | inr later ↦ inr (listed q rest more k h later)
  ]

  once_each : (p : GraphPoint) (rest : List GraphPoint) (names : List ℕ) → Passes x p rest names → NoRepeats rest → NoRepeats names
  once_each p [] names h once = rw h tt
  once_each p (q ∷ rest) names (inl (none, h)) once = once_each q rest names h once.1
  once_each p (q ∷ rest) names (inr (n, more, are, is, h)) once =
      rw are (
        (λ among. once.0 (subst (λ (r : GraphPoint). Among r rest) (sym is.1) (listed q rest more n h among))),
        once_each q rest more h once.1,
      )

read_prefix : (F : Meanings) (s : State) (y z : ℕ) (xs zs : List ℕ) → EachReads F s y (xs ++ z ∷ zs) → EachReads F s y (xs ++ z ∷ [])
read_prefix F s y z [] zs h = (h.0, tt)
read_prefix F s y z (a ∷ xs) zs h = (h.0, read_prefix F s a z xs zs h.1)

last_is : (z : ℕ) (xs : List ℕ) → LastIs z (xs ++ z ∷ [])
last_is z [] = refl
last_is z (a ∷ []) = refl
last_is z (a ∷ b ∷ xs) = last_is z (b ∷ xs)

each_prefix : (P : ℕ → Type 0) (xs ys : List ℕ) → Each P (xs ++ ys) → Each P xs
each_prefix P [] ys h = tt
each_prefix P (a ∷ xs) ys h = (h.0, each_prefix P xs ys h.1)

among_joined : (a y : ℕ) (xs : List ℕ) → Among a (xs ++ y ∷ []) → Among a xs ⊎ (a ≡ y)
among_joined a y [] (inl e) = inr e
among_joined a y [] (inr none) = absurd none
among_joined a y (b ∷ xs) (inl e) = inl (inl e)
among_joined a y (b ∷ xs) (inr later) = elim (among_joined a y xs later) [ inl l ↦ inl (inr l) | inr e ↦ inr e ]

once_turned : (y : ℕ) (xs : List ℕ) → NoRepeats xs → (Among y xs → ⊥) → NoRepeats (xs ++ y ∷ [])
once_turned y [] once other = ((λ none. none), tt)
once_turned y (a ∷ xs) once other = (
  λ among. either (among_joined a y xs among),
  once_turned y xs once.1 (λ later. other (inr later)),
)
  where
    either : Among a xs ⊎ (a ≡ y) → ⊥
    either (inl later) = once.0 later
    either (inr same) = other (inl (sym same))

-- ---- the law

module _ (x : Both) (fits : Fits x) (keep : KeepToTypes x.meanings) (valid : Valid x.meanings x.state)
    (apart : NodesApart x.state x.nodes) (parts : PartsApart x) (before : State) (grabs : GrabsBind before)
    (stay : FormulasStay before x.state) where
  abbrev Is : Item → Type 0
  Is i = Met x.meanings before x.state i

  is_closed : Closed x Is
  is_closed = met_closed x before grabs (valid_grabs x.meanings x.state valid) stay

  is_stand : (i : Item) → Is i → StillStands x.meanings x.state i
  is_stand i is = met_stands x.meanings before x.state i is

  is_pass : (i : Item) (t : ℕ) → Is i → Reads x.meanings x.state i (Named t) → Is (Named t)
  is_pass i t is read = met_reads x.meanings before x.state i (Named t) is read

  abbrev Cyclic : List ℕ → Type 0
  Cyclic names = (first : ℕ) × (more : List ℕ) × (names ≡ first ∷ more)
      × IsCycle x.meanings x.state (first ∷ (more ++ first ∷ [])) × Each (λ k. Is (Named k)) names

  -- from a point on, twice round, and any number of times where no name is passed
  by_start : (S : GraphPoint) (p : Point) → Own x Is p S → (names : List ℕ) → NoRepeats names → (twice : List GraphPoint)
      → IsGraphWalk (Dep x) (S ∷ twice) → Passes x S twice (names ++ names)
      → (names ≡ [] → (n : ℕ) → (L : List GraphPoint) × (n ≤ length L) × IsGraphWalk (Dep x) (S ∷ L) × Passes x S L [])
      → Cyclic names
  by_start S p own names once twice w h again =
      by_begin names once again (begin x fits keep valid apart parts before grabs stay Is (on_places x Is is_closed) is_stand
      (λ t. Is (Named t)) is_pass (λ t met. met) p S own twice (names ++ names) w h)
    where
      never : (names : List ℕ) → names ≡ []
          → (names ≡ [] → (n : ℕ) → (L : List GraphPoint) × (n ≤ length L) × IsGraphWalk (Dep x) (S ∷ L) × Passes x S L []) → ⊥
      never names e again =
          let L = again e (suc (number x.state p)) in
          let short = no_longer x fits keep valid apart parts before grabs stay Is (on_places x Is is_closed) is_stand
          (λ t. Is (Named t)) is_pass p S own L.0 L.2 L.3 in
          let long = L.1 in omega (arith, short, long)

      by_begin : (names : List ℕ) → NoRepeats names
          → (names ≡ [] → (n : ℕ) → (L : List GraphPoint) × (n ≤ length L) × IsGraphWalk (Dep x) (S ∷ L) × Passes x S L [])
          → ((names ++ names ≡ []) ⊎ ((first : ℕ) × (more : List ℕ) × (names ++ names ≡ first ∷ more) × Is (Named first)
          × EachReads x.meanings x.state first more × Each (λ k. Is (Named k)) more)) → Cyclic names
      by_begin [] once again h = absurd (never [] refl again)
      by_begin (y ∷ more) once again (inl none) = absurd (cc)
      by_begin (y ∷ more) once again (inr (first, later, are, met, each, mets)) =
          let same : y ≡ first = cc in
          let rest : more ++ y ∷ more ≡ later = cc in
          let reads = rw (← same, ← rest) at each in
          let all = rw (← rest) at mets in (
            y,
            more,
            refl,
            (
              read_prefix x.meanings x.state y y more more reads,
              last_is y more,
              once_turned y more once.1 once.0,
            ),
            (rw same met, each_prefix (λ k. Is (Named k)) more (y ∷ more) all),
          )

  -- from the first point, if it is that of an item
  from_first : (P Q : GraphPoint) (rest : List GraphPoint) (names : List ℕ) (p : Point) → Own x Is p P
      → IsGraphWalk (Dep x) (P ∷ Q ∷ rest) → EndsAt P (Q ∷ rest) → NoRepeats (Q ∷ rest) → Passes x P (Q ∷ rest) names → Cyclic names
  from_first P Q rest names p own w e once h =
      by_start P p own names (once_each x P (Q ∷ rest) names h once) ((Q ∷ rest) ++ (Q ∷ rest))
      (join_walk x P P (Q ∷ rest) (Q ∷ rest) w e w) (join_passes x P P (Q ∷ rest) (Q ∷ rest) names names h e h)
      (λ none n. (
        times x n (Q ∷ rest),
        times_long x Q rest n,
        times_walk x P (Q ∷ rest) w e n,
        times_none x P (Q ∷ rest) (rw none at h) e n,
      ))

  -- from the second, which is a change
  from_second : (P Q : GraphPoint) (rest : List GraphPoint) (names : List ℕ) (p : Point) (b : NodeId) → Own x Is p Q → Q ≡ change b
      → IsGraphWalk (Dep x) (P ∷ Q ∷ rest) → EndsAt P (Q ∷ rest) → NoRepeats (Q ∷ rest) → Passes x P (Q ∷ rest) names → Cyclic names
  from_second P Q rest names p b own Q_is w e once h =
      by_start Q p own names (once_each x P (Q ∷ rest) names h once) (rest ++ (Q ∷ rest))
      (join_walk x P P (Q ∷ rest) (Q ∷ rest) w e w).1
      (behind (rest ++ (Q ∷ rest)) (names ++ names) (join_passes x P P (Q ∷ rest) (Q ∷ rest) names names h e h))
      (λ none n. (
        rest ++ times x n (Q ∷ rest),
        (let more = times_long x Q rest n in let all = join_length x rest (times x n (Q ∷ rest)) in omega (arith, more, all)),
        (times_walk x P (Q ∷ rest) w e (suc n)).1,
        behind (rest ++ times x n (Q ∷ rest)) [] (times_none x P (Q ∷ rest) (rw none at h) e (suc n)),
      ))
    where
      behind : (L : List GraphPoint) (ns : List ℕ) → Passes x P (Q ∷ L) ns → Passes x Q L ns
      behind L ns (inl (none, h)) = h
      behind L ns (inr (k, more, are, is, h)) =
          absurd (let parts : ChangePart ≡ MainPart = ap (λ (p : GraphPoint). p.part) (sym Q_is ∙ is.1) in cc)

  pub by_cover : (P Q : GraphPoint) (rest : List GraphPoint) (names : List ℕ) (i : Item) → Is i → Covers x i P
      → IsGraphWalk (Dep x) (P ∷ Q ∷ rest) → EndsAt P (Q ∷ rest) → NoRepeats (Q ∷ rest) → Passes x P (Q ∷ rest) names → Cyclic names
  by_cover P Q rest names i is (by_main {n = n} node P_is) w e once h =
      let found = main_item x fits keep valid Is is_closed is_stand i n Q is node (rw P_is at w.0) in
      from_first P Q rest names found.0 (subst (λ (p : GraphPoint). Own x Is found.0 p) (sym P_is) found.1) w e once h
  by_cover P Q rest names i is (by_choice {owner = owner} {path = path} {n = n} item at choice P_is) w e once h =
      let place = rw item at is in
      let f = is_closed.there owner path place in
      from_first P Q rest names (Change (Place owner path)) (own_choice owner path f.0 n place f.1 (rw f.1 at choice) at refl P_is) w e once h
  by_cover P Q rest names i is (by_left {owner = owner} {path = path} {b = b} item at P_is) w e once h =
      let place = rw item at is in
      let f = is_closed.there owner (Left ∷ path) place in
      let above = part_above x.state owner path Left f.0 f.1 in
      let bind = left_bind above.0 f.0 above.2 in
      from_first P Q rest names (Change (Place owner path)) (own_left owner path bind.0 bind.1 b place
      (above.1 ∙ ap (λ f. Some f) bind.2) at refl P_is) w e once h
  by_cover P Q rest names i is (by_variable {owner = owner} {path = path} {b = b} {c = c} {r = r} {v = v} item at row scope built
      for def P_is) w e once h =
      let place = rw item at is in
      let f = is_closed.there owner (Left ∷ path) place in
      let above = part_above x.state owner path Left f.0 f.1 in
      let bind = left_bind above.0 f.0 above.2 in
      let Q_is = variable_leads x fits keep valid Is is_closed is_stand b c r v Q row scope def (rw P_is at w.0) in
      from_second P Q rest names (Change (Place owner path)) b (own_left owner path bind.0 bind.1 b place
      (above.1 ∙ ap (λ f. Some f) bind.2) at refl Q_is) Q_is w e once h

pub cycles_are_named : CyclesAreNamed
cycles_are_named x fits keep valid apart parts before grabs stay p q rest names covered w e once h =
    by_cover x fits keep valid apart parts before grabs stay p q rest names covered.0 covered.1 covered.2 w e once h
