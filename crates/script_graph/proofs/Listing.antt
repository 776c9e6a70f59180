-- Lists of an expert's declarations, and of their nodes.
use Rattle.std.proofs.Common.{◌≡◌, inl, inr, ℕ, Bool, true, false, cond, List, [], ◌∷◌, ◌++◌, ◌||◌, map, nat_eq, refl, ap, sym, ◌∙◌}
use Rattle.std.specs.List.{list_any}
use Rattle.std.proofs.lemmas.Bool.{eqb-true, eq-eqb}
use Rattle.expert_nodes.specs.Experts as nodes
use Rattle.expert_nodes.specs.Experts.{point_of}
use Rattle.inc_value.specs.Choice.{Among, Every as Each}
use Rattle.inc_value.specs.declared.node.NodeId.{NodeId}
use Rattle.inc_value.specs.declared.node.Point.{Point}
use Rattle.point_map.specs.Rows.{same_point}
use Rattle.point_map.proofs.Places.{same_point_eq, same_point_self}
use Rattle.script_model.specs.Step as script

pub each_push : {A : Type 0} (P : A → Type 0) (xs : List A) (x : A) → Each P xs → P x → Each P (xs ++ x ∷ [])
each_push P [] x all last = (last, tt)
each_push P (y ∷ xs) x all last = (all.0, each_push P xs x all.1 last)

-- ---- where declarations have nodes of their own

module _ (P : ℕ → Type 0) (N : ℕ → NodeId) (apart : (t u : ℕ) → P t → P u → N t ≡ N u → t ≡ u) (target : ℕ) (own : P target) where
  -- two positions are the same just where their nodes are
  same_nodes : (t : ℕ) → P t → same_point (point_of (N t)) (point_of (N target)) ≡ nat_eq target t
  same_nodes t declared = go (nat_eq target t) refl (same_point (point_of (N t)) (point_of (N target))) refl
    where
      go : (b : Bool) → nat_eq target t ≡ b → (c : Bool) → same_point (point_of (N t)) (point_of (N target)) ≡ c → c ≡ b
      go true e true f = refl
      go false e false f = refl
      go true e false f =
          let same : target ≡ t = eqb-true target t e in
          let point : same_point (point_of (N t)) (point_of (N target)) ≡ true =
          ap (λ (u : ℕ). same_point (point_of (N t)) (point_of (N u))) same ∙ same_point_self (point_of (N t)) in
          sym f ∙ point
      go false e true f =
          let points = same_point_eq (point_of (N t)) (point_of (N target)) f in
          let same : t ≡ target = apart t target declared own (ap (λ (p : Point). p.node) points) in
          sym (eq-eqb target t (sym same)) ∙ e

  -- the list without the first place is that of the nodes without it
  pub without_nodes : (links : List ℕ) → Each P links → nodes.without_first (N target) (map N links) ≡ map N (script.without_first target links)
  without_nodes [] declared = refl
  without_nodes (t ∷ links) declared = go (nat_eq target t) refl (without_nodes links declared.1)
    where
      go : (b : Bool) → nat_eq target t ≡ b → nodes.without_first (N target) (map N links) ≡ map N (script.without_first target links)
          → nodes.without_first (N target) (map N (t ∷ links)) ≡ map N (script.without_first target (t ∷ links))
      go true e rest = rw (e, same_nodes t declared.0 ∙ e) refl
      go false e rest = rw (e, same_nodes t declared.0 ∙ e) (ap (λ (ns : List NodeId). N t ∷ ns) rest)

  -- what is listed has its node among them
  pub listed_among : (links : List ℕ) → Each P links → list_any (nat_eq target) links ≡ true → Among (N target) (map N links)
  listed_among [] declared is = absurd (cc)
  listed_among (t ∷ links) declared is = go (nat_eq target t) refl is (listed_among links declared.1)
    where
      go : (b : Bool) → nat_eq target t ≡ b → b || list_any (nat_eq target) links ≡ true
          → (list_any (nat_eq target) links ≡ true → Among (N target) (map N links)) → Among (N target) (map N (t ∷ links))
      go true e is rest = inl (ap N (eqb-true target t e))
      go false e is rest = inr (rest is)

  pub among_listed : (links : List ℕ) → Each P links → Among (N target) (map N links) → list_any (nat_eq target) links ≡ true
  among_listed [] declared among = absurd among
  among_listed (t ∷ links) declared (inl e) =
      let same : t ≡ target = apart t target declared.0 own (sym e) in
      ap (λ (b : Bool). b || list_any (nat_eq target) links) (eq-eqb target t (sym same))
  among_listed (t ∷ links) declared (inr among) = go (nat_eq target t) (among_listed links declared.1 among)
    where
      go : (b : Bool) → list_any (nat_eq target) links ≡ true → b || list_any (nat_eq target) links ≡ true
      go true is = refl
      go false is = is

-- what is so of all is so of those that are left
pub each_without : (P : ℕ → Type 0) (target : ℕ) (links : List ℕ) → Each P links → Each P (script.without_first target links)
each_without P target [] all = tt
each_without P target (t ∷ links) all = go (nat_eq target t) (each_without P target links all.1)
  where
    go : (b : Bool) → Each P (script.without_first target links) → Each P (cond b links (t ∷ script.without_first target links))
    go true rest = all.1
    go false rest = (all.0, rest)
