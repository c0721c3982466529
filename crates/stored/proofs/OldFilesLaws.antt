-- OLD STORED FILES READ AS BEFORE (`old_files`): a file that one field holds, as all were, keeps a tree exactly if it is the tree's form of Ticket 4. Assumes nothing.
use Rattle.std.specs.Prelude.{◌≡◌, ◌↔◌, List, ℕ, ◌+◌, ◌≤◌, length}
use Rattle.std.proofs.Common.{sym, ap, subst, ◌∙◌, arith}
use Rattle.language.specs.Tree.{Tree}
use Rattle.language.specs.Lent.{lent}
use Rattle.language.specs.Sound.{Profile}
use Rattle.stored.specs.Form.{head, widest, form}
use Rattle.stored.specs.Loaded.{Kept}
use Rattle.stored.proofs.KeepsLaws.{profile_kept}
use Rattle.stored.specs.Old as old
use Rattle.stored.proofs.OldLengthsLaws.{short_old, short_now}
use Rattle.stored.specs.OldFiles.{widest_few}

module _ (stored : List ℕ) (t : Tree) (l : length stored ≤ head + widest) where
  old_bytes : Kept stored t → old.form t ≡ stored
  old_bytes k = sym (short_now t (omega (arith, ap length k.bytes))) ∙ k.bytes

  old_keeps : Profile t → old.form t ≡ stored → Kept stored t
  old_keeps p e =
      let f : form t ≡ stored = short_old t (omega (arith, ap length e)) ∙ e in
      subst (λ (s : List ℕ). Kept s t) f (profile_kept t p (omega (arith, ap length f, widest_few)))

  pub old_files : Profile t → Kept stored t ↔ (old.form t ≡ stored)
  old_files p = (old_bytes, old_keeps p)
