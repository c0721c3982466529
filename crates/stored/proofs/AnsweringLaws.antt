-- THE ANSWERS, as code finds them: of any tree as documents have them, without repeated keys, whose form the bytes are; and by the count of bytes alone. Assumes nothing.
use Rattle.std.specs.Prelude.{◌≡◌, List, ◌++◌, ℕ, ◌+◌, ◌*◌, ◌≤◌, ◌<◌, length, drop}
use Rattle.std.proofs.Common.{sym, ap, subst, ◌∙◌, arith}
use Rattle.language.specs.Tree.{Tree, width, unlined, size, text_of, rows_of, Once}
use Rattle.language.specs.Answered.{deepest, ROWS, TEXT}
use Rattle.language.specs.Lent.{lent, words_in, bytes_in}
use Rattle.language.specs.Sound.{Holds}
use Rattle.shaped.specs.Shaped.{Shaped}
use Rattle.shaped.specs.Bare.{alike_size, alike_text}
use Rattle.shaped.specs.Holds.{profile_shaped}
use Rattle.stored.specs.Form.{head, widest, form, loaded}
use Rattle.stored.proofs.LengthsLaws.{form_plain, form_most}
use Rattle.stored.specs.Unspanned.{placed_alike}
use Rattle.stored.specs.Loaded.{BADFORM, Loads, loads, bad_form, rows, bytes}
use Rattle.stored.specs.Keeps.{kept_shaped, KeptLike}
use Rattle.stored.proofs.KeepsLaws.{shaped_kept}
use Rattle.stored.specs.Answering.{Found}

pub holds_most : {table : List ℕ} {n : ℕ} {text : List ℕ} (t : Tree) → Holds table n text t → length (form t) ≤ 8 * lent
holds_most t h = let e = form_most (profile_shaped h.profile) in omega (arith, h.count, h.rows_fit, h.text_fits)

-- .. and where one field holds them, rows and text tell how many they are
pub holds_short : {table : List ℕ} {n : ℕ} {text : List ℕ} (t : Tree) → Holds table n text t → head * n + length (text_of t) ≤ head + widest → length (form t) ≡ head * n + length (text_of t)
holds_short t h l = form_plain (profile_shaped h.profile) (omega (arith, h.count)) ∙ ap (λ (m : ℕ). head * m + length (text_of t)) h.count

found_kept : {stored : List ℕ} (t : Tree) → Found stored t → length stored ≤ lent → KeptLike stored t
found_kept t x l = shaped_kept t x.shaped x.once x.bytes l

module _ {stored table text : List ℕ} where
  module _ (t : Tree) (x : Found stored t) (l : length stored ≤ lent) where
    pub load_rows : words_in table < width * size t → Loads stored table text ROWS (size t) 0 table text
    load_rows m =
        let k = found_kept t x l in
        let e = alike_size k.tree t k.alike in
        subst (λ (n : ℕ). Loads stored table text ROWS n 0 table text) e (rows k.tree k.kept (omega arith))

    pub load_text : width * size t ≤ words_in table → bytes_in text < length (text_of t) → Loads stored table text TEXT (length (text_of t)) 0 table text
    load_text m o =
        let k = found_kept t x l in
        let e = alike_size k.tree t k.alike in
        let f = ap length (alike_text k.tree t k.alike) in
        subst (λ (n : ℕ). Loads stored table text TEXT n 0 table text) f (bytes k.tree k.kept (omega arith) (omega arith))

    pub load_done : width * size t ≤ words_in table → length (text_of t) ≤ bytes_in text
        → Loads
        stored
        table
        text
        0
        (size t)
        (length (text_of t))
        (rows_of unlined 0 0 0 (loaded t) ++ drop (width * size t) table)
        (text_of t ++ drop (length (text_of t)) text)
    load_done m o =
        let k = found_kept t x l in
        let u = k.tree in
        let e : size t ≡ size u = sym (alike_size u t k.alike) in
        let f : text_of t ≡ text_of u = sym (alike_text u t k.alike) in
        let g : loaded t ≡ loaded u = sym (placed_alike u t k.alike (λ i. i)) in
        rw (e, f, g) (loads u k.kept (omega arith) (omega (arith, ap length f)))
