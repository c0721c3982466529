-- THE WALK GIVES a clash exactly if two trees clash, else the one over the other (`overlay_either`). Assumes nothing.
use Rattle.std.specs.Prelude.{◌≡◌, refl, List, ◌∷◌, ◌++◌, Bool, true, false, ℕ, eqb}
use Rattle.std.proofs.Common.{sym, ap, ap₂, ◌∙◌}
use Rattle.notation.specs.Class.{pick, and, or}
use Rattle.language.specs.Kind.{OBJECT}
use Rattle.language.specs.Tree.{Tree, leaf, node, Forest, none, more, Field, field, object_tree, text_of}
use Rattle.language.specs.Alike.{unspan, unspans}
use Rattle.overlay.specs.Overlay.{is_object, pairs_of, pairs, Value, value, absent, at, value_of, new_ones, OrClash, onward, Laid, laid, clash, meet, lay, lay_pairs, lay_pair, overlay}
use Rattle.overlay.specs.Over.{clashes, clash_in, clash_of, over, pairs_over, pair_over, clash_or_over}
use Rattle.overlay.specs.Unspanned.{unspan_text, bare, bare_value, unspan_object, bare_pairs_of, bare_pairs_lem, bare_value_lem, bare_append, bare_new, bare_object}

-- what is given, without spans
abbrev pub bare_tree : Laid → Laid
bare_tree l = onward l (λ t. laid (unspan t))

abbrev pub bare_pairs : OrClash (List Field) → OrClash (List Field)
bare_pairs l = onward l (λ fs. laid (bare fs))

-- a pair and the others
abbrev pub joined : Tree → Laid → OrClash (List Field) → OrClash (List Field)
joined k l m = onward l (λ x. onward m (λ fs. laid (field k x ∷ fs)))

pub bare_joined : (k : Tree) (l : Laid) (m : OrClash (List Field)) → bare_pairs (joined k l m) ≡ joined (unspan k) (bare_tree l) (bare_pairs m)
unfolding bare
bare_joined k (laid x) (laid fs) = refl
bare_joined k (laid x) clash = refl
bare_joined k clash m = refl

pub either_joined : (k : Tree) (a b : Bool) (x : Tree) (fs : List Field) → joined k (pick a clash (laid x)) (pick b clash (laid fs)) ≡ pick (or a b) clash (laid (field k x ∷ fs))
either_joined k true b x fs = refl
either_joined k false true x fs = refl
either_joined k false false x fs = refl

-- an object of the pairs and the new ones
abbrev pub object : ℕ → ℕ → OrClash (List Field) → List Field → Laid
object a e l n = onward l (λ fs. laid (object_tree a e (fs ++ n)))

bare_made : (a e : ℕ) (l : OrClash (List Field)) (n : List Field) → bare_tree (object a e l n) ≡ object 0 0 (bare_pairs l) (bare n)
unfolding unspan
bare_made a e (laid fs) n = ap laid (sym (bare_object (fs ++ n)) ∙ ap (object_tree 0 0) (bare_append fs n))
bare_made a e clash n = refl

either_made : (b : Bool) (fs n : List Field) → object 0 0 (pick b clash (laid fs)) n ≡ pick b clash (laid (object_tree 0 0 (fs ++ n)))
either_made true fs n = refl
either_made false fs n = refl

-- the value of a key that is in one only, or in both
pub value_either : (v : Tree) → ((w : Tree) → bare_tree (lay v w) ≡ clash_or_over (unspan v) (unspan w)) → (x : Value)
    → bare_tree (at (λ w. lay v w) (laid v) x) ≡ pick (at (λ w. clashes (unspan v) w) false (bare_value x)) clash (laid (at (λ w. over (unspan v) w) (unspan v) (bare_value x)))
unfolding clash_or_over
value_either v f (value w) = f w
value_either v f absent = refl

-- an object's pairs and the new ones
pub made : (a e : ℕ) (ts : Forest) (gs : List Field) → bare_pairs (lay_pairs ts gs) ≡ pick (clash_in (unspans ts) (bare gs)) clash (laid (pairs_over (unspans ts) (bare gs)))
    → bare_tree (object a e (lay_pairs ts gs) (new_ones (pairs_of ts) gs))
    ≡ pick (clash_in (unspans ts) (bare gs)) clash (laid (object_tree 0 0 (pairs_over (unspans ts) (bare gs) ++ new_ones (pairs_of (unspans ts)) (bare gs))))
made a e ts gs p =
    bare_made a e (lay_pairs ts gs) (new_ones (pairs_of ts) gs)
    ∙ (ap₂ (object 0 0) p (sym (bare_new (pairs_of ts) gs) ∙ ap (λ (l : List Field). new_ones l (bare gs)) (sym (bare_pairs_of ts)))
    ∙ either_made (clash_in (unspans ts) (bare gs)) (pairs_over (unspans ts) (bare gs)) (new_ones (pairs_of (unspans ts)) (bare gs)))
