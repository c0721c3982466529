-- THE THEOREMS OF THE STORED FORM (02, Tickets 4 and 11), by name. What they say stands in `stored` (Form, Stored, Loaded; Back, Fields, Old) and `spans` (Placed).
use Rattle.std.specs.Prelude.{◌≡◌, ◌↔◌, List, ◌++◌, ℕ, ◌+◌, ◌*◌, ◌≤◌, ◌<◌, length, get_or, take, drop, Result}
use Rattle.std.proofs.Common.{sym, ◌∙◌}
use Rattle.language.specs.Tree.{Tree, width, text_of}
use Rattle.language.specs.Lent.{words_in, bytes_in}
use Rattle.language.specs.Alike.{Alike}
use Rattle.language.specs.Sound.{Profile, Holds, Sound}
use Rattle.shaped.specs.Holds.{profile_shaped}
use Rattle.spans.specs.Placed.{Within}
use Rattle.stored.specs.declared.StoreRefusal.{StoreRefusal}
use Rattle.stored.specs.declared.Loaded.{Loaded}
use Rattle.stored.specs.declared.LoadRefusal.{LoadRefusal}
use Rattle.stored.specs.Form.{tagged, head, widest, PART, cut, form, inside, loaded}
use Rattle.stored.specs.Stored.{storing_number, storing_count, Stores}
use Rattle.stored.specs.Loaded.{loading_number, loading_value, loading_second, Kept, Loads}
use Rattle.stored.specs.Unspanned as unspanned
use Rattle.stored.specs.Apart as apart
use Rattle.stored.proofs.ApartLaws as apart_laws
use Rattle.stored.specs.Unique as unique
use Rattle.stored.proofs.UniqueLaws as unique_laws
use Rattle.stored.specs.Cases as cases
use Rattle.stored.proofs.CasesLaws as cases_laws
use Rattle.stored.specs.Back as back
use Rattle.stored.proofs.BackLaws as back_laws
use Rattle.stored.specs.Fields as fields
use Rattle.stored.proofs.FieldsLaws as fields_laws
use Rattle.stored.specs.Old as old
use Rattle.stored.specs.OldForms as oldForms
use Rattle.stored.proofs.OldFormsLaws as oldForms_laws
use Rattle.stored.specs.OldFiles as oldFiles
use Rattle.stored.proofs.OldFilesLaws as oldFiles_laws
use Rattle.stored.specs.Parts as parts
use Rattle.stored.proofs.PartsLaws as parts_laws

-- ONE TREE HAS ONE STORED FORM: trees are equal but for spans exactly if their bytes are
pub one_stored : (t u : Tree) → Profile t → Profile u → Alike t u ↔ (form t ≡ form u)
one_stored t u p q = (unspanned.form_alike t u, apart_laws.form_tells (profile_shaped p) (profile_shaped q))

-- .. and whatever stands behind them: no field begins another
pub fields_apart : (t u : Tree) (r w : List ℕ) → Profile t → Profile u → form t ++ r ≡ form u ++ w → Alike t u × (r ≡ w)
fields_apart t u r w p q e = let b = apart_laws.form_apart (profile_shaped p) (profile_shaped q) e in (b.alike, b.rest)

-- ONE ANSWER of storing and of loading: number, values, and every byte and word of the rooms; and so the case of the enum
pub one_store : (table : List ℕ) (rows : ℕ) (text out : List ℕ) (n c n₂ c₂ : ℕ) (out' out'' : List ℕ) → Stores table rows text out n c out' → Stores table rows text out n₂ c₂ out''
    → (n ≡ n₂) × (c ≡ c₂) × (out' ≡ out'')
one_store table rows text out n c n₂ c₂ out' out'' x y = unique.one_store x y

pub one_storing : (table : List ℕ) (rows : ℕ) (text out : List ℕ) (a b : Result ℕ StoreRefusal) (out' out'' : List ℕ) → Stores table rows text out (storing_number a) (storing_count a) out'
    → Stores table rows text out (storing_number b) (storing_count b) out'' → (a ≡ b) × (out' ≡ out'')
one_storing table rows text out a b out' out'' x y = cases.one_storing a b x y

pub one_load : (stored table text : List ℕ) (n v s n₂ v₂ s₂ : ℕ) (table' text' table'' text'' : List ℕ) → Loads stored table text n v s table' text'
    → Loads stored table text n₂ v₂ s₂ table'' text'' → (n ≡ n₂) × (v ≡ v₂) × (s ≡ s₂) × (table' ≡ table'') × (text' ≡ text'')
one_load stored table text n v s n₂ v₂ s₂ table' text' table'' text'' x y = unique_laws.one_load x y

pub one_loading : (stored table text : List ℕ) (a b : Result Loaded LoadRefusal) (table' text' table'' text'' : List ℕ) → Loads stored table text (loading_number a) (loading_value a) (loading_second a) table' text'
    → Loads stored table text (loading_number b) (loading_value b) (loading_second b) table'' text'' → (a ≡ b) × (table' ≡ table'') × (text' ≡ text'')
one_loading stored table text a b table' text' table'' text'' x y = cases_laws.one_loading a b x y

-- A TABLE THAT `load` FILLED is sound
pub load_sound : (stored table text : List ℕ) (n m : ℕ) (table' text' : List ℕ) → Loads stored table text 0 n m table' text' → Sound table' n text'
load_sound stored table text n m table' text' x = back_laws.load_sound x

-- WHAT WAS STORED IS LOADED given the rooms, with as many rows and its text's bytes, and leaves a table and a text that hold the table's tree but for spans
pub stored_loads : (table : List ℕ) (rows : ℕ) (text out : List ℕ) (n : ℕ) (out' table₂ text₂ : List ℕ) (c v s : ℕ) (table₃ text₃ : List ℕ) (t : Tree)
    → Stores table rows text out 0 n out' → Holds table rows text t → width * rows ≤ words_in table₂ → length (text_of t) ≤ bytes_in text₂ → Loads (take n out') table₂ text₂ c v s table₃ text₃
    → back.ReadBack table rows text c v s table₃ text₃
stored_loads table rows text out n out' table₂ text₂ c v s table₃ text₃ t x h l m y = back_laws.stored_loads t x h l m y

-- WHAT WAS LOADED IS STORED as the same bytes, where the output has room for them
pub loaded_stores : (stored table text : List ℕ) (n m : ℕ) (table' text' out : List ℕ) (c b : ℕ) (out' : List ℕ) → Loads stored table text 0 n m table' text' → length stored ≤ bytes_in out
    → Stores table' n text' out c b out' → back.StoredBack stored c b out'
loaded_stores stored table text n m table' text' out c b out' x l y = back_laws.loaded_stores x l y

-- EACH SPAN of what stored bytes hold runs from its field's first tag to the end of its last byte there
pub stored_spans : (stored : List ℕ) (t : Tree) → Kept stored t → (u : Tree) → Within u (loaded t) → fields.SpanIs stored u
stored_spans stored t x u w = fields_laws.span_field stored t x.bytes u w

-- A tree whose contents are all at most 65,535 bytes has the stored form of Ticket 4, and its spans there
pub old_stored : (t : Tree) → (old.Wide t → ⊥) → (form t ≡ old.form t) × (loaded t ≡ old.placed 0 t)
old_stored t f = (oldForms_laws.old_form t f, oldForms_laws.old_placed t f)

-- OLD STORED FILES READ AS BEFORE: of a file that one field holds, as all files of Ticket 4 were, the trees kept are those whose form of Ticket 4 it is
pub old_files : (stored : List ℕ) (t : Tree) → length stored ≤ head + widest → Profile t → Kept stored t ↔ (old.form t ≡ stored)
old_files stored t l p = oldFiles_laws.old_files stored t l p

-- A CONTENT IN ITS PARTS: one field up to 65,535 bytes; else a full part, and the rest in its parts; and where each byte stands
pub part_none : (kind : ℕ) (s : List ℕ) → length s ≤ widest → cut kind s ≡ tagged kind s
part_none kind s l = parts_laws.cut_short kind s l

pub part_next : (kind : ℕ) (s : List ℕ) → widest < length s → cut kind s ≡ tagged PART (take widest s) ++ cut kind (drop widest s)
part_next kind s l = parts_laws.cut_long kind s l

pub part_byte : (kind : ℕ) (s : List ℕ) (i : ℕ) → i < length s → get_or (cut kind s) (inside i) 0 ≡ get_or s i 0
part_byte kind s i l = parts_laws.cut_byte kind s i l
