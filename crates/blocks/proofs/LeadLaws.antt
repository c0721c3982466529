-- WHAT BEGINS AT ONE PLACE: a line, an array or an object. Read by OR: by the look for a dash or a key one of them wins. Exact; more allowance. Assumes nothing.
use Rattle.std.specs.Prelude.{ℕ}
use Rattle.language.specs.Tree.{Tree}
use Rattle.exact.specs.Out.{Reader, Tame}
use Rattle.exact.specs.Lang.{Lang, Follow, Exact}
use Rattle.exact.specs.Comb.{Alt}
use Rattle.exact.specs.More.{OneMore, Meet, meet_loses}
use Rattle.blocks.specs.Or.{or_r}
use Rattle.blocks.proofs.OrLaws.{or_tame, or_exact, or_more, or_new}
use Rattle.blocks.specs.Look.{Decided, turn, decided_meet, Beside, kind, ends, beside_meet, beside_flat}
use Rattle.blocks.proofs.LookLaws.{or_decided}
use Rattle.blocks.specs.KeyLook.{key_look, key_stop, dash_look, dash_stop, block_look}
use Rattle.blocks.proofs.KeyLookLaws.{dash_key}
use Rattle.blocks.specs.Lead.{Leads, lead_r}

module _ {base l d o : Reader Tree} (h : Leads base l d o) where
  block : Decided block_look key_stop (or_r d o)
  block = or_decided dash_key h.array h.object

  inner : Meet (λ at s. turn (dash_look at s) (key_look at s)) dash_stop key_stop d o
  inner = decided_meet dash_key h.array h.object

  outer : Meet (kind block_look key_stop base) (ends block_look key_stop base) key_stop l (or_r d o)
  outer = beside_meet block_look key_stop base h.line block

  tame_block : Tame 0 (or_r d o)
  tame_block = or_tame h.tame_array h.tame_object

  pub lead_exact : {e : ℕ} {F : Follow} {A D O : Lang Tree} → Exact e A F l → Exact e D F d → Exact e O F o → Exact e (Alt A (Alt D O)) F (lead_r l d o)
  unfolding lead_r
  lead_exact x y z = or_exact (meet_loses outer) x (or_exact (meet_loses inner) y z)

module _ {base l₀ l₁ l₂ d₀ d₁ d₂ o₀ o₁ o₂ : Reader Tree} where
  pub lead_more : Leads base l₀ d₀ o₀ → Leads base l₁ d₁ o₁ → Leads base l₂ d₂ o₂ → OneMore l₀ l₁ l₂ → OneMore d₀ d₁ d₂ → OneMore o₀ o₁ o₂
      → OneMore (lead_r l₀ d₀ o₀) (lead_r l₁ d₁ o₁) (lead_r l₂ d₂ o₂)
  unfolding lead_r
  lead_more h₀ h₁ h₂ x y z = or_more x (or_more y z (inner h₀) (inner h₁) (inner h₂)) (outer h₀) (outer h₁) (outer h₂)

-- arrays and objects are new
pub lead_new : {base l₀ l₁ l₂ d₁ d₂ o₁ o₂ : Reader Tree} → Leads base l₁ d₁ o₁ → Leads base l₂ d₂ o₂ → OneMore l₀ l₁ l₂ → OneMore l₀ (lead_r l₁ d₁ o₁) (lead_r l₂ d₂ o₂)
unfolding lead_r
lead_new {base} h₁ h₂ x = or_new x (tame_block h₁) (tame_block h₂) (outer h₁) (outer h₂) (beside_flat block_look key_stop base h₁.line)
