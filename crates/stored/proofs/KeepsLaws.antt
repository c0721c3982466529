-- WHAT STORED BYTES HOLD: one tree, spans aside (`kept_alike`); and any tree as documents have them, without repeated keys, whose form the bytes are, is one that a sound table holds (`shaped_kept`). Assumes nothing.
use Rattle.std.specs.Prelude.{◌≡◌, refl, List, [], ◌++◌, ℕ, ◌≤◌, length}
use Rattle.std.proofs.Common.{sym, subst, ◌∙◌}
use Rattle.language.specs.Tree.{Tree, unlined, size, text_of, rows_of, Once}
use Rattle.language.specs.Answered.{deepest}
use Rattle.language.specs.Lent.{lent}
use Rattle.language.specs.Alike.{Alike}
use Rattle.language.specs.Sound.{Profile}
use Rattle.language.specs.House.{house}
use Rattle.shaped.specs.Shaped.{Shaped}
use Rattle.shaped.specs.Once.{alike_once}
use Rattle.shaped.specs.Holds.{profile_shaped, stored_holds}
use Rattle.house.specs.Document.{house_document}
use Rattle.stored.specs.Form.{form}
use Rattle.stored.proofs.LengthsLaws.{few_rows, few_text}
use Rattle.stored.specs.Unspanned.{form_alike}
use Rattle.stored.proofs.ApartLaws.{form_tells}
use Rattle.stored.specs.Loaded.{Kept}
use Rattle.stored.specs.Keeps.{KeptLike, kept_shaped}

module _ {stored : List ℕ} where
  pub kept_alike : {t u : Tree} → Kept stored t → Kept stored u → Alike t u
  kept_alike x y = form_tells (kept_shaped x) (kept_shaped y) (x.bytes ∙ sym y.bytes)

-- a profile of few bytes is kept as its form: its rows and its text are few enough for a sound table
pub profile_kept : (t : Tree) → Profile t → length (form t) ≤ lent → Kept (form t) t
profile_kept t p l =
    let x = profile_shaped p in
    record {
      table = rows_of unlined 0 0 0 t ++ [];
      rows = size t;
      text = text_of t ++ [];
      holds = stored_holds t unlined [] [] p (few_rows t x l) (few_text t x l);
      bytes = refl;
      few = l;
    }

pub shaped_kept : {stored : List ℕ} (t : Tree) → Shaped deepest t → Once t → form t ≡ stored → length stored ≤ lent → KeptLike stored t
shaped_kept {stored} t x o e l =
    let r = house_document deepest t x in
    let u = r.tree in
    let a = sym r.alike in
    let g : form u ≡ stored = form_alike u t r.alike ∙ e in
    let p : Profile u = record { document = house t; word = r.word; once = alike_once t u a o } in
    record {
      tree = u;
      kept = subst (λ (s : List ℕ). Kept s u) g (profile_kept u p (subst (λ (s : List ℕ). length s ≤ lent) (sym g) l));
      alike = r.alike;
    }
