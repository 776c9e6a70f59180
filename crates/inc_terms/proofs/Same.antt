-- The test of equal outcomes decides their equality.
use Rattle.std.proofs.Common as std
use Rattle.std.proofs.Common.{◌≡◌, ℕ, List, [], ◌∷◌, true, false, refl, ap, ◌∙◌, ◌==◌, ◌&&◌}
use Rattle.std.specs.Bool.{Decides}
use Rattle.std.specs.Ordering.{int_eq}
use Rattle.std.proofs.lemmas.Bool.Decides.{Decides-eqb, Decides-int_eq, Decides-and, Decides-like}
use Rattle.inc_value.specs.Ty.{same_base}
use Rattle.inc_value.specs.declared.ty.Base.{Base}
use Rattle.inc_value.specs.declared.ty.Base.TheVariants as base
use Rattle.inc_value.specs.declared.node.NodeId.{NodeId}
use Rattle.inc_value.specs.declared.outcome.Outcome.{Outcome}
use Rattle.inc_value.specs.declared.outcome.Outcome.TheVariants.{Val, Invalid}
use Rattle.inc_value.specs.declared.value.Value.{Value}
use Rattle.inc_value.specs.declared.value.Value.TheVariants.{Int, Bool, Text, Node}
use Rattle.inc_terms.specs.Same.{same_bytes, same_bool, same_node, same_value, same_outcome}

no_way : {P : Type 0} → (P → ⊥) → Decides false P
no_way h = ((λ e. absurd (cc)), (λ p. absurd (h p)))

bool_decides : (a b : std.Bool) → Decides (same_bool a b) (a ≡ b)
bool_decides true true = ((λ e. refl), (λ e. refl))
bool_decides false false = ((λ e. refl), (λ e. refl))
bool_decides true false = no_way (λ (e : true ≡ false). cc)
bool_decides false true = no_way (λ (e : false ≡ true). cc)

base_decides : (a b : Base) → Decides (same_base a b) (a ≡ b)
base_decides base.Int base.Int = ((λ e. refl), (λ e. refl))
base_decides base.Bool base.Bool = ((λ e. refl), (λ e. refl))
base_decides base.Text base.Text = ((λ e. refl), (λ e. refl))
base_decides base.Int base.Bool = no_way (λ (e : base.Int ≡ base.Bool). cc)
base_decides base.Int base.Text = no_way (λ (e : base.Int ≡ base.Text). cc)
base_decides base.Bool base.Int = no_way (λ (e : base.Bool ≡ base.Int). cc)
base_decides base.Bool base.Text = no_way (λ (e : base.Bool ≡ base.Text). cc)
base_decides base.Text base.Int = no_way (λ (e : base.Text ≡ base.Int). cc)
base_decides base.Text base.Bool = no_way (λ (e : base.Text ≡ base.Bool). cc)

bytes_decides : (a b : List ℕ) → Decides (same_bytes a b) (a ≡ b)
bytes_decides [] [] = ((λ e. refl), (λ e. refl))
bytes_decides [] (b ∷ bs) = no_way (λ (e : [] ≡ (b ∷ bs)). cc)
bytes_decides (a ∷ as_) [] = no_way (λ (e : (a ∷ as_) ≡ []). cc)
bytes_decides (a ∷ as_) (b ∷ bs) =
    Decides-like ((a == b) && same_bytes as_ bs) (λ (h : (a ≡ b) × (as_ ≡ bs)). let e = h.0 in let e' = h.1 in cc)
    (λ (e : (a ∷ as_) ≡ (b ∷ bs)). ((cc), (cc)))
    (Decides-and (a == b) (same_bytes as_ bs) (Decides-eqb a b) (bytes_decides as_ bs))

pub id_of : ℕ → ℕ → NodeId
id_of s g = record { slot = s; gen_ = g }

same_fields : (a b : NodeId) → a.slot ≡ b.slot → a.gen_ ≡ b.gen_ → a ≡ b
unfolding id_of
same_fields a b e e' = ap (λ (s : ℕ). id_of s a.gen_) e ∙ ap (λ (g : ℕ). id_of b.slot g) e'

pub node_decides : (a b : NodeId) → Decides (same_node a b) (a ≡ b)
node_decides a b =
    Decides-like (same_node a b) (λ (h : (a.slot ≡ b.slot) × (a.gen_ ≡ b.gen_)). same_fields a b h.0 h.1)
    (λ (e : a ≡ b). (ap (λ (x : NodeId). x.slot) e, ap (λ (x : NodeId). x.gen_) e))
    (Decides-and (a.slot == b.slot) (a.gen_ == b.gen_) (Decides-eqb a.slot b.slot) (Decides-eqb a.gen_ b.gen_))

pub value_decides : (a b : Value) → Decides (same_value a b) (a ≡ b)
value_decides (Int a) (Int b) = Decides-like (int_eq a b) (λ (e : a ≡ b). cc) (λ (e : Int a ≡ Int b). cc) (Decides-int_eq a b)
value_decides (Bool a) (Bool b) = Decides-like (same_bool a b) (λ (e : a ≡ b). cc) (λ (e : Bool a ≡ Bool b). cc) (bool_decides a b)
value_decides (Text a) (Text b) = Decides-like (same_bytes a b) (λ (e : a ≡ b). cc) (λ (e : Text a ≡ Text b). cc) (bytes_decides a b)
value_decides (Node a x) (Node b y) =
    Decides-like (same_node a b && same_base x y) (λ (h : (a ≡ b) × (x ≡ y)). let e = h.0 in let e' = h.1 in cc)
    (λ (e : Node a x ≡ Node b y). ((cc), (cc)))
    (Decides-and (same_node a b) (same_base x y) (node_decides a b) (base_decides x y))
value_decides (Int a) (Bool b) = no_way (λ (e : Int a ≡ Bool b). cc)
value_decides (Int a) (Text b) = no_way (λ (e : Int a ≡ Text b). cc)
value_decides (Int a) (Node b y) = no_way (λ (e : Int a ≡ Node b y). cc)
value_decides (Bool a) (Int b) = no_way (λ (e : Bool a ≡ Int b). cc)
value_decides (Bool a) (Text b) = no_way (λ (e : Bool a ≡ Text b). cc)
value_decides (Bool a) (Node b y) = no_way (λ (e : Bool a ≡ Node b y). cc)
value_decides (Text a) (Int b) = no_way (λ (e : Text a ≡ Int b). cc)
value_decides (Text a) (Bool b) = no_way (λ (e : Text a ≡ Bool b). cc)
value_decides (Text a) (Node b y) = no_way (λ (e : Text a ≡ Node b y). cc)
value_decides (Node a x) (Int b) = no_way (λ (e : Node a x ≡ Int b). cc)
value_decides (Node a x) (Bool b) = no_way (λ (e : Node a x ≡ Bool b). cc)
value_decides (Node a x) (Text b) = no_way (λ (e : Node a x ≡ Text b). cc)

pub outcome_decides : (a b : Outcome) → Decides (same_outcome a b) (a ≡ b)
unfolding same_outcome
outcome_decides (Val a) (Val b) = Decides-like (same_value a b) (λ (e : a ≡ b). cc) (λ (e : Val a ≡ Val b). cc) (value_decides a b)
outcome_decides Invalid Invalid = ((λ e. refl), (λ e. refl))
outcome_decides (Val a) Invalid = no_way (λ (e : Val a ≡ Invalid). cc)
outcome_decides Invalid (Val b) = no_way (λ (e : Invalid ≡ Val b). cc)
