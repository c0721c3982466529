-- AN OVERLAY IS A CLASH exactly if one object stands against one other value, at the roots or at a key that is in both (`overlay_clashes`). Assumes nothing.
use Rattle.std.specs.Prelude.{◌≡◌, refl, ◌↔◌, List, Bool, true, false, ℕ}
use Rattle.std.proofs.Common.{sym, ap, ◌∙◌}
use Rattle.language.specs.Tree.{Tree}
use Rattle.language.specs.Alike.{unspan}
use Rattle.language.specs.Answered.{deepest}
use Rattle.exact.specs.Tells.{Tells}
use Rattle.overlay.specs.Overlay.{is_object, pairs, Value, value, absent, value_of, clash, overlay}
use Rattle.overlay.specs.Over.{clashes}
use Rattle.overlay.specs.Lists.{no_value}
use Rattle.overlay.specs.Objects.{same_value}
use Rattle.overlay.specs.Unspanned.{bare_value, plain_value, unspan_object, sane_unspan}
use Rattle.overlay.specs.Profiles.{ProfileTree, tree_sane}
use Rattle.overlay.specs.Result.{no_tree}
use Rattle.overlay.specs.Clash.{Clash, lower_object, upper_object, below}

-- SPANS ASIDE
pub clash_unspan : {t u : Tree} → Clash t u → Clash (unspan t) (unspan u)
clash_unspan {t} {u} (lower_object p q) = lower_object (unspan_object t ∙ p) (unspan_object u ∙ q)
clash_unspan {t} {u} (upper_object p q) = upper_object (unspan_object t ∙ p) (unspan_object u ∙ q)
clash_unspan {t} {u} (below s p q i j c) =
    below s (unspan_object t ∙ p) (unspan_object u ∙ q) (plain_value s t ∙ ap bare_value i) (plain_value s u ∙ ap bare_value j) (clash_unspan c)

pub object_back : {x : Tree} {b : Bool} (t : Tree) → x ≡ unspan t → is_object x ≡ b → is_object t ≡ b
object_back t e p = sym (unspan_object t) ∙ (sym (ap is_object e) ∙ p)

value_back : {x : Tree} {v : Value} (s : List ℕ) (t : Tree) → x ≡ unspan t → value_of s (pairs t) ≡ v → value_of s (pairs x) ≡ bare_value v
value_back s t e l = ap (λ (z : Tree). value_of s (pairs z)) e ∙ (plain_value s t ∙ ap bare_value l)

pub clash_back : {x y : Tree} → Clash x y → (t u : Tree) → x ≡ unspan t → y ≡ unspan u → Clash t u
clash_back (lower_object p q) t u e f = lower_object (object_back t e p) (object_back u f q)
clash_back (upper_object p q) t u e f = upper_object (object_back t e p) (object_back u f q)
clash_back (below {v = v} {w = w} s p q i j c) t u e f = by (value_of s (pairs t)) (value_of s (pairs u)) refl refl (λ a b. clash_back c a b)
  where
    by : (l m : Value) → value_of s (pairs t) ≡ l → value_of s (pairs u) ≡ m → ((a b : Tree) → v ≡ unspan a → w ≡ unspan b → Clash a b) → Clash t u
    by (value a) (value b) g h d =
        below s (object_back t e p) (object_back u f q) g h (d a b (same_value (sym i ∙ value_back s t e g)) (same_value (sym j ∙ value_back s u f h)))
    by absent m g h d = absurd (no_value i (value_back s t e g))
    by (value a) absent g h d = absurd (no_value j (value_back s u f h))
