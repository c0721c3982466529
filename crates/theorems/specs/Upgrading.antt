-- THE THEOREMS OF THE UPGRADE DECISION (02, Ticket 6), by name. What they say stands in `upgrade` (Version, Sheet, Decides; Order, Unique, Written).
use Rattle.std.specs.Prelude.{◌≡◌, refl, List, [], ◌∷◌, ℕ, pos, neg_ℤ}
use Rattle.std.proofs.Common.{subst}
use Rattle.language.specs.Tree.{Tree}
use Rattle.language.specs.Answered.{deepest, Reads, Answered}
use Rattle.shaped.specs.Holds.{accepted_holds}
use Rattle.language.specs.Scalars.{signed}
use Rattle.integers.specs.Integer.{natural, integer}
use Rattle.shaped.specs.Shaped.{Number}
use Rattle.upgrade.specs.Version.{Version, Above}
use Rattle.upgrade.specs.Sheet.{Sheet}
use Rattle.upgrade.specs.Decides.{INSTALL, Answer, number, value, Answers, Decides}
use Rattle.upgrade.specs.Order as order
use Rattle.upgrade.specs.Unique as unique
use Rattle.upgrade.specs.Written as written
use Rattle.theorems.specs.Proved.{known}

-- THE ORDER OF VERSIONS: total up to trailing zeros
pub version_order : order.VersionOrder
version_order = order.version_order

-- NEVER BACK: an install has a sheet and an installed version, and the sheet's is above, whatever tables and rooms hold; of `decide` and of `yay_decide`
pub never_back : (sheet : List ℕ) (rows : ℕ) (text installed : List ℕ) (rows' : ℕ) (text' : List ℕ) (n d : ℕ) → Decides sheet rows text installed rows' text' n d → d ≡ INSTALL
    → unique.Upward sheet rows text installed rows' text'
never_back sheet rows text installed rows' text' n d x e = unique.never_back x e

-- ONE DECISION: number and value, and so the case of the enum
pub one_decision : (sheet : List ℕ) (rows : ℕ) (text installed : List ℕ) (rows' : ℕ) (text' : List ℕ) (n d n₂ d₂ : ℕ)
    → Decides sheet rows text installed rows' text' n d → Decides sheet rows text installed rows' text' n₂ d₂ → (n ≡ n₂) × (d ≡ d₂)
one_decision sheet rows text installed rows' text' n d n₂ d₂ x y = unique.one_decision x y

pub one_decide : (sheet : List ℕ) (rows : ℕ) (text installed : List ℕ) (rows' : ℕ) (text' : List ℕ) (a b : Answer)
    → Decides sheet rows text installed rows' text' (number a) (value a) → Decides sheet rows text installed rows' text' (number b) (value b) → a ≡ b
one_decide sheet rows text installed rows' text' a b x y = let e = unique.one_decision x y in unique.one_case a b e.0 e.1

-- TEN IS ABOVE NINE, by the texts of their first places
pub ten_above_nine : (t u : Tree) (v w : List ℕ) → written.First (49 ∷ 48 ∷ []) t → written.First (57 ∷ []) u → Version t v → Version u w → Above v w
ten_above_nine t u v w p q x y = written.ten_above_nine p q x y

-- FROM DOCUMENT TO DECISION: of two documents that `read` accepts, the decision is that of the numbers in their trees
pub documents_decide : (doc table text table' text' : List ℕ) (n m : ℕ) (doc₂ table₂ text₂ table₃ text₃ : List ℕ) (n₂ m₂ : ℕ) (t u : Tree) (c d : ℕ) → Reads doc t → Reads doc₂ u
    → Answered doc table text 0 n m table' text' → Answered doc₂ table₂ text₂ 0 n₂ m₂ table₃ text₃ → Decides table' n text' table₃ n₂ text₃ c d → Answers (Sheet t) (Version u) c d
documents_decide doc table text table' text' n m doc₂ table₂ text₂ table₃ text₃ n₂ m₂ t u c d r s x y z =
    let a = accepted_holds x refl in
    let b = accepted_holds y refl in
    let e : a.tree ≡ t = known.one_tree deepest doc a.tree t a.reads.word r.word in
    let f : b.tree ≡ u = known.one_tree deepest doc₂ b.tree u b.reads.word s.word in
    subst (λ (w : Tree). Answers (Sheet t) (Version w) c d) f (subst (λ (w : Tree). Answers (Sheet w) (Version b.tree) c d) e (unique.trees_decide a.tree b.tree a.holds b.holds z))

-- .. and the text of an integer in a tree denotes the number of its digits as they are written
pub as_written : (ds : List ℕ) → Number ds → (integer (signed [] ds) ≡ pos (natural 0 ds)) × (integer (signed (45 ∷ []) ds) ≡ neg_ℤ (pos (natural 0 ds)))
as_written ds n = (written.written ds n, written.written_minus ds n)
