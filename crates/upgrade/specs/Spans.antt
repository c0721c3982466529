-- SPANS ASIDE: of trees that are alike, the one is a version or a sheet if the other is, with the same numbers. Assumes nothing.
use mathlib.Core.Path.{◌≡◌, sym, subst}
use Rattle.std.specs.Prelude.{List, ℕ}
use Rattle.language.specs.Tree.{Tree, leaf, node, Forest, none, more}
use Rattle.language.specs.Alike.{unspan, unspans, Alike}
use Rattle.upgrade.specs.Version.{Numbers, no_number, one_number, Version, version}
use Rattle.upgrade.specs.Sheet.{Under, under_here, under_later, Named, Image, image, Sheet, sheet}

-- ---- spans taken off

numbers_unspan : {ts : Forest} {ns : List ℕ} → Numbers ts ns → Numbers (unspans ts) ns
unfolding unspan
numbers_unspan no_number = no_number
numbers_unspan (one_number h x) = one_number h (numbers_unspan x)

version_unspan : {t : Tree} {ns : List ℕ} → Version t ns → Version (unspan t) ns
unfolding unspan
version_unspan (version x l m) = version (numbers_unspan x) l m

image_unspan : {t : Tree} → Image t → Image (unspan t)
unfolding unspan
image_unspan (image h) = image h

under_unspan : {s : List ℕ} {v : Tree} {ts : Forest} → Under s v ts → Under s (unspan v) (unspans ts)
unfolding unspan
under_unspan under_here = under_here
under_unspan (under_later x) = under_later (under_unspan x)

-- ---- and put back: a tree or a value whose spans were taken off

unspan_numbers : (ts : Forest) {ns : List ℕ} → Numbers (unspans ts) ns → Numbers ts ns
unfolding unspan
unspan_numbers none no_number = no_number
unspan_numbers (more (node _ _ _ _ _) ts) {ns = ns} x8 = elim x8 [ ]
unspan_numbers (more (leaf k a e s) ts) (one_number h x) = one_number h (unspan_numbers ts x)

unspan_version : (t : Tree) {ns : List ℕ} → Version (unspan t) ns → Version t ns
unfolding unspan
unspan_version (leaf _ _ _ _) {ns = ns} x5 = elim x5 [ ]
unspan_version (node k a e c ts) (version x l m) = version (unspan_numbers ts x) l m

unspan_image : (t : Tree) → Image (unspan t) → Image t
unfolding unspan
unspan_image (node _ _ _ _ _) x6 = elim x6 [ ]
unspan_image (leaf k a e s) (image h) = image h

pub record Spanned (s : List ℕ) (w : Tree) (ts : Forest) : Type 0 where
  pub value : Tree
  pub bare : unspan value ≡ w
  pub under : Under s value ts

later : {s : List ℕ} {w t : Tree} {ts : Forest} → Spanned s w ts → Spanned s w (more t ts)
later y = record { value = y.value; bare = y.bare; under = under_later y.under }

-- what stands below one child alone stands behind it
lone : {s : List ℕ} {w t : Tree} → Under s w (more t none) → Under s w none
lone (under_later y) = y

first_under : (t : Tree) (ts : Forest) {s : List ℕ} {w : Tree} → Under s w (unspans (more t ts)) → (Under s w (unspans ts) → Spanned s w ts) → Spanned s w (more t ts)
unfolding unspan
first_under (leaf k a e d) none x f = later (f (lone x))
first_under (leaf k a e d) (more v ts) under_here f = record { value = v; bare = mathlib.Core.Path.refl; under = under_here }
first_under (leaf k a e d) (more v ts) (under_later x) f = later (f x)
first_under (node k a e c us) ts (under_later x) f = later (f x)

unspan_under : (ts : Forest) {s : List ℕ} {w : Tree} → Under s w (unspans ts) → Spanned s w ts
unfolding unspan
unspan_under none x = elim x [ ]
unspan_under (more t ts) x = first_under t ts x (λ y. unspan_under ts y)

spanned_version : {s : List ℕ} {w : Tree} {ts : Forest} {ns : List ℕ} (y : Spanned s w ts) → Version w ns → Version y.value ns
spanned_version {ns = ns} y x = unspan_version y.value (subst (λ (w : Tree). Version w ns) (sym y.bare) x)

spanned_image : {s : List ℕ} {w : Tree} {ts : Forest} (y : Spanned s w ts) → Image w → Image y.value
spanned_image y x = unspan_image y.value (subst Image (sym y.bare) x)

-- ---- sheets

sheet_unspan : {t : Tree} {v f : List ℕ} → Sheet t v f → Sheet (unspan t) v f
unfolding unspan
sheet_unspan (sheet {ts = ts} p x q y r z only) =
    sheet
    (under_unspan p) (version_unspan x)
    (under_unspan q) (version_unspan y)
    (under_unspan r) (image_unspan z)
    (λ s w h. let k = unspan_under ts h in only s k.value k.under)

unspan_sheet : (t : Tree) {v f : List ℕ} → Sheet (unspan t) v f → Sheet t v f
unfolding unspan
unspan_sheet (leaf _ _ _ _) {v = v} {f = f} x5 = elim x5 [ ]
unspan_sheet (node k a e c ts) (sheet p x q y r z only) =
    let p' = unspan_under ts p in
    let q' = unspan_under ts q in
    let r' = unspan_under ts r in
    sheet
    p'.under (spanned_version p' x)
    q'.under (spanned_version q' y)
    r'.under (spanned_image r' z)
    (λ s w h. only s (unspan w) (under_unspan h))

module _ (t u : Tree) (h : Alike t u) where
  pub alike_version : {ns : List ℕ} → Version t ns → Version u ns
  alike_version {ns} x = unspan_version u (subst (λ (w : Tree). Version w ns) h (version_unspan x))

  pub alike_sheet : {v f : List ℕ} → Sheet t v f → Sheet u v f
  alike_sheet {v} {f} x = unspan_sheet u (subst (λ (w : Tree). Sheet w v f) h (sheet_unspan x))
