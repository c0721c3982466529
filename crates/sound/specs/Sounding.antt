-- A TREE THAT STANDS IN THE ROWS makes the table sound: what the house style writes for it is a document with a tree like it (`sane_sound`); and a sound table holds such a tree. Assumes nothing.
use Rattle.std.specs.Prelude.{◌≡◌, List, ℕ, ◌*◌, ◌≤◌}
use Rattle.std.proofs.Common.{sym, ◌∙◌}
use Rattle.language.specs.Tree.{Tree, width, size}
use Rattle.language.specs.Answered.{deepest}
use Rattle.language.specs.Lent.{words_in}
use Rattle.language.specs.House.{house}
use Rattle.language.specs.Sound.{Holds, Sound}
use Rattle.shaped.specs.RowsAt.{RowsAt}
use Rattle.shaped.specs.Bare.{alike_size, alike_at}
use Rattle.shaped.specs.Told.{rows_tell}
use Rattle.shaped.specs.Once.{alike_once}
use Rattle.shaped.specs.Holds.{profile_shaped, holds_at, at_holds}
use Rattle.house.specs.Document.{house_document}
use Rattle.sound.specs.Members.{Sane}

module _ (table text : List ℕ) (rows : ℕ) where
  pub sane_sound : (t : Tree) → Sane deepest t → RowsAt table text 0 0 0 t → size t ≡ rows → width * rows ≤ words_in table → Sound table rows text
  sane_sound t s h e l =
      let r = house_document deepest t s.shaped in
      let u = r.tree in
      let a = sym r.alike in
      record {
        tree = u;
        holds = at_holds (record { document = house t; word = r.word; once = alike_once t u a s.once }) (sym (alike_size t u a) ∙ e) l (alike_at t u a table text h);
      }

  -- the tree that a sound table holds
  pub record Held (t : Tree) : Type 0 where
    pub sane : Sane deepest t
    pub at : RowsAt table text 0 0 0 t
    pub count : size t ≡ rows
    pub fits : width * rows ≤ words_in table

  pub holds_held : {t : Tree} → Holds table rows text t → Held t
  holds_held h = record { sane = record { shaped = profile_shaped h.profile; once = h.profile.once }; at = holds_at h; count = h.count; fits = h.rows_fit }

  -- as many rows
  pub held_rows : (t u : Tree) → Sane deepest t → RowsAt table text 0 0 0 t → Held u → size t ≡ rows
  held_rows t u s h x = alike_size t u (rows_tell table text s.shaped x.sane.shaped h x.at) ∙ x.count
