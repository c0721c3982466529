-- ONE DECISION: a version and a sheet have their numbers, so the promise admits one answer; and no decision installs a version that is not above the one installed. Assumes nothing.
use mathlib.Core.Path.{◌≡◌, refl, sym, ap, ap₂, ◌∙◌}
use Rattle.std.specs.Prelude.{List, [], ◌∷◌, ℕ, ℤ, pos, negsuc}
use Rattle.std.proofs.Common.{arith}
use Rattle.language.specs.Kind.{OBJECT}
use Rattle.language.specs.Tree.{Tree, leaf, node, Forest, more, Has, has_here, has_later, Repeated, again, below, beside, inside, Once}
use Rattle.language.specs.Alike.{Alike}
use Rattle.language.specs.Sound.{Holds}
use Rattle.shaped.specs.Holds.{sound_tree}
use Rattle.upgrade.specs.Version.{Numbers, no_number, one_number, Version, version, Above}
use Rattle.upgrade.specs.Sheet.{VERSION, FLOOR, Under, under_here, under_later, Sheet, sheet}
use Rattle.std.specs.Prelude.{Ok, Err}
use Rattle.upgrade.specs.declared.Decision.TheVariants.{Install, Keep, Blocked}
use Rattle.upgrade.specs.declared.Undecided.TheVariants.{BadSheet, BadInstalled}
use Rattle.upgrade.specs.Decides.{Answer, number, value, BADSHEET, BADINST, INSTALL, KEEP, BLOCKED, Decided, installs, keeps, blocks, Answers, decides, bad_sheet, bad_installed, SheetIn, InstalledIn, Decides}
use Rattle.upgrade.specs.Spans.{alike_version, alike_sheet}

-- ---- numbers

natural_of : ℤ → ℕ
natural_of (pos n) = n
natural_of (negsuc n) = 0

pub pos_one : {z : ℤ} {n m : ℕ} → z ≡ pos n → z ≡ pos m → n ≡ m
unfolding natural_of
pos_one p q = ap natural_of (sym p ∙ q)

numbers_one : {ts : Forest} {ns ms : List ℕ} → Numbers ts ns → Numbers ts ms → ns ≡ ms
numbers_one no_number no_number = refl
numbers_one (one_number h x) (one_number k y) = ap₂ (λ (n : ℕ) (ns : List ℕ). n ∷ ns) (pos_one h k) (numbers_one x y)

pub version_one : {t : Tree} {v w : List ℕ} → Version t v → Version t w → v ≡ w
version_one (version x l m) (version y i j) = numbers_one x y

-- ---- values of an object without repeated keys

abbrev Onces : Forest → Type 0
Onces ts = (p : ℕ) → Repeated p ts → ⊥

-- a value's key stands among the children
pub record Stands (s : List ℕ) (ts : Forest) : Type 0 where
  pub start : ℕ
  pub has : Has s start ts

pub under_has : {s : List ℕ} {v : Tree} {ts : Forest} → Under s v ts → Stands s ts
under_has (under_here {a = a}) = record { start = a; has = has_here }
under_has (under_later x) = let y = under_has x in record { start = y.start; has = has_later y.has }

-- the same of two lists of children that are equal
under_two : {s : List ℕ} {v w : Tree} {ts us : Forest} → Onces ts → ts ≡ us → Under s v ts → Under s w us → v ≡ w
under_two o e under_here under_here = cc
under_two {s = s} {v = v} o e (under_here {ts = ts}) (under_later {ts = us} y) =
    let q : us ≡ more v ts = cc in
    let z = mathlib.Core.Path.subst (Stands s) q (under_has y) in
    absurd (o z.start (again z.has))
under_two {s = s} {w = w} o e (under_later {ts = ts} x) (under_here {ts = us}) =
    let q : ts ≡ more w us = cc in
    let z = mathlib.Core.Path.subst (Stands s) q (under_has x) in
    absurd (mathlib.Core.Path.subst Onces e o z.start (again z.has))
under_two o e (under_later {ts = ts} x) (under_later {ts = us} y) =
    let q : ts ≡ us = cc in
    under_two (λ p h. o p (beside h)) q x y

pub under_one : {s : List ℕ} {v w : Tree} {ts : Forest} → Onces ts → Under s v ts → Under s w ts → v ≡ w
under_one o x y = under_two o refl x y

pub record Same (v f w g : List ℕ) : Type 0 where
  pub version : v ≡ w
  pub floor : f ≡ g

same_version : {t u : Tree} {v w : List ℕ} → t ≡ u → Version t v → Version u w → v ≡ w
same_version {v = v} {w = w} e x y = version_one (mathlib.Core.Path.subst (λ (t : Tree). Version t v) e x) y

pub sheet_one : {t : Tree} {v f w g : List ℕ} → Once t → Sheet t v f → Sheet t w g → Same v f w g
sheet_one o (sheet p x q y r z m) (sheet p' x' q' y' r' z' m') =
    let n : Onces _ = λ i h. o i (inside h) in
    record { version = same_version (under_one n p p') x x'; floor = same_version (under_one n q q') y y' }

-- ---- in tables

module _ {table text : List ℕ} {rows : ℕ} where
  -- .. of any tree that the table holds
  pub installed_tree : {i : List ℕ} → InstalledIn table rows text i → (t : Tree) → Holds table rows text t → Version t i
  installed_tree x t h = alike_version x.tree t (sound_tree table rows text x.tree t x.holds h) x.is

  pub sheet_tree : {v f : List ℕ} → SheetIn table rows text v f → (t : Tree) → Holds table rows text t → Sheet t v f
  sheet_tree x t h = alike_sheet x.tree t (sound_tree table rows text x.tree t x.holds h) x.is

  pub one_installed : {i j : List ℕ} → InstalledIn table rows text i → InstalledIn table rows text j → i ≡ j
  one_installed x y = version_one x.is (installed_tree y x.tree x.holds)

  pub one_sheet : {v f w g : List ℕ} → SheetIn table rows text v f → SheetIn table rows text w g → Same v f w g
  one_sheet x y = sheet_one x.holds.profile.once x.is (sheet_tree y x.tree x.holds)

-- ---- decisions

one_decided : {v f i : List ℕ} {d d' : ℕ} → Decided v f i d → Decided v f i d' → d ≡ d'
one_decided (installs a b) (installs c e) = refl
one_decided (installs a b) (keeps c) = absurd (c a)
one_decided (installs a b) (blocks c e) = absurd (b e)
one_decided (keeps a) (installs c e) = absurd (a c)
one_decided (keeps a) (keeps c) = refl
one_decided (keeps a) (blocks c e) = absurd (a c)
one_decided (blocks a b) (installs c e) = absurd (e b)
one_decided (blocks a b) (keeps c) = absurd (c a)
one_decided (blocks a b) (blocks c e) = refl

module _ {S : List ℕ → List ℕ → Type 0} {I : List ℕ → Type 0} (one-S : (v f w g : List ℕ) → S v f → S w g → Same v f w g) (one-I : (i j : List ℕ) → I i → I j → i ≡ j) where
  pub one_answer : {n d n' d' : ℕ} → Answers S I n d → Answers S I n' d' → (n ≡ n') × (d ≡ d')
  one_answer (decides s i x) (decides s' i' y) = let e = one-S _ _ _ _ s s' in (refl, one_decided (rw (e.version, e.floor, one-I _ _ i i') at x) y)
  one_answer (decides s i x) (bad_sheet j f) = absurd (f _ _ s)
  one_answer (decides s i x) (bad_installed f) = absurd (f _ i)
  one_answer (bad_sheet j f) (decides s i x) = absurd (f _ _ s)
  one_answer (bad_sheet j f) (bad_sheet k g) = (refl, refl)
  one_answer (bad_sheet j f) (bad_installed g) = absurd (g _ j)
  one_answer (bad_installed f) (decides s i x) = absurd (f _ i)
  one_answer (bad_installed f) (bad_sheet j g) = absurd (f _ j)
  one_answer (bad_installed f) (bad_installed g) = (refl, refl)

  -- NEVER BACK: what is installed is above what was
  pub upward : {n d : ℕ} {v f i : List ℕ} → Answers S I n d → d ≡ INSTALL → S v f → I i → Above v i
  upward (decides s j (installs a b)) e t k = rw ((one-S _ _ _ _ s t).version, one-I _ _ j k) at a
  upward (decides s j (keeps a)) e t k = absurd (omega arith)
  upward (decides s j (blocks a b)) e t k = absurd (omega arith)
  upward (bad_sheet j f) e t k = absurd (omega arith)
  upward (bad_installed f) e t k = absurd (omega arith)

-- the same answer where the same is said of sheet and installed version
pub answers_map : {S T : List ℕ → List ℕ → Type 0} {I J : List ℕ → Type 0} → ((v f : List ℕ) → S v f → T v f) → ((v f : List ℕ) → T v f → S v f) → ((i : List ℕ) → I i → J i) → ((i : List ℕ) → J i → I i)
    → {n d : ℕ} → Answers S I n d → Answers T J n d
answers_map a b c e (decides s i x) = decides (a _ _ s) (c _ i) x
answers_map a b c e (bad_sheet i f) = bad_sheet (c _ i) (λ v g y. f v g (b v g y))
answers_map a b c e (bad_installed f) = bad_installed (λ i y. f i (e i y))

-- of tables and rooms that hold trees, the decision is that of the trees' numbers
pub trees_decide : {sheet text installed text' : List ℕ} {rows rows' n d : ℕ} (t u : Tree) → Holds sheet rows text t → Holds installed rows' text' u
    → Decides sheet rows text installed rows' text' n d → Answers (Sheet t) (Version u) n d
trees_decide t u h k =
    answers_map (λ v f x. sheet_tree x t h) (λ v f x. record { tree = t; holds = h; is = x }) (λ i x. installed_tree x u k) (λ i x. record { tree = u; holds = k; is = x })

-- ---- tables and text rooms, whatever they hold

module _ {sheet text installed text' : List ℕ} {rows rows' : ℕ} where
  pub one_decision : {n d n' d' : ℕ} → Decides sheet rows text installed rows' text' n d → Decides sheet rows text installed rows' text' n' d' → (n ≡ n') × (d ≡ d')
  one_decision = one_answer (λ v f w g x y. one_sheet x y) (λ i j x y. one_installed x y)

-- AN INSTALL HAS a sheet and an installed version; and whatever they are, the sheet's version is above the installed one
pub record Upward (sheet : List ℕ) (rows : ℕ) (text installed : List ℕ) (rows' : ℕ) (text' : List ℕ) : Type 0 where
  pub version : List ℕ
  pub floor : List ℕ
  pub before : List ℕ
  pub sheet_is : SheetIn sheet rows text version floor
  pub installed_is : InstalledIn installed rows' text' before
  pub above : (v f i : List ℕ) → SheetIn sheet rows text v f → InstalledIn installed rows' text' i → Above v i

installed : {sheet text installed text' : List ℕ} {rows rows' n d : ℕ} → Decides sheet rows text installed rows' text' n d → d ≡ INSTALL
    → ((v f i : List ℕ) → SheetIn sheet rows text v f → InstalledIn installed rows' text' i → Above v i) → Upward sheet rows text installed rows' text'
installed (decides {v = v} {f = f} {i = i} s j z) e a = record { version = v; floor = f; before = i; sheet_is = s; installed_is = j; above = a }
installed (bad_sheet j f) e a = absurd (omega arith)
installed (bad_installed f) e a = absurd (omega arith)

pub never_back : {sheet text installed text' : List ℕ} {rows rows' n d : ℕ} → Decides sheet rows text installed rows' text' n d → d ≡ INSTALL
    → Upward sheet rows text installed rows' text'
never_back x e = installed x e (λ v f i s j. upward (λ v f w g x y. one_sheet x y) (λ i j x y. one_installed x y) x e s j)

-- number and value tell the case of the enum
pub one_case : (a b : Answer) → number a ≡ number b → value a ≡ value b → a ≡ b
one_case (Ok Install) (Ok Install) e f = refl
one_case (Ok Install) (Ok Keep) e f = absurd (omega arith)
one_case (Ok Install) (Ok Blocked) e f = absurd (omega arith)
one_case (Ok Install) (Err BadSheet) e f = absurd (omega arith)
one_case (Ok Install) (Err BadInstalled) e f = absurd (omega arith)
one_case (Ok Keep) (Ok Install) e f = absurd (omega arith)
one_case (Ok Keep) (Ok Keep) e f = refl
one_case (Ok Keep) (Ok Blocked) e f = absurd (omega arith)
one_case (Ok Keep) (Err BadSheet) e f = absurd (omega arith)
one_case (Ok Keep) (Err BadInstalled) e f = absurd (omega arith)
one_case (Ok Blocked) (Ok Install) e f = absurd (omega arith)
one_case (Ok Blocked) (Ok Keep) e f = absurd (omega arith)
one_case (Ok Blocked) (Ok Blocked) e f = refl
one_case (Ok Blocked) (Err BadSheet) e f = absurd (omega arith)
one_case (Ok Blocked) (Err BadInstalled) e f = absurd (omega arith)
one_case (Err BadSheet) (Ok Install) e f = absurd (omega arith)
one_case (Err BadSheet) (Ok Keep) e f = absurd (omega arith)
one_case (Err BadSheet) (Ok Blocked) e f = absurd (omega arith)
one_case (Err BadSheet) (Err BadSheet) e f = refl
one_case (Err BadSheet) (Err BadInstalled) e f = absurd (omega arith)
one_case (Err BadInstalled) (Ok Install) e f = absurd (omega arith)
one_case (Err BadInstalled) (Ok Keep) e f = absurd (omega arith)
one_case (Err BadInstalled) (Ok Blocked) e f = absurd (omega arith)
one_case (Err BadInstalled) (Err BadSheet) e f = absurd (omega arith)
one_case (Err BadInstalled) (Err BadInstalled) e f = refl
