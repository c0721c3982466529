-- BLOCK STRINGS in their bytes: the body's text, its indentation taken away, is not longer than its lines. Assumes nothing.
use Rattle.std.specs.Prelude.{◌≡◌, refl, List, [], ◌∷◌, ◌++◌, ℕ, zero, suc, ◌+◌, ◌-◌, ◌≤◌, ◌<◌, length}
use Rattle.std.proofs.Common.{arith}
use Rattle.notation.specs.Lang.{Lang, Star, cat}
use Rattle.language.specs.Kind.{STRING}
use Rattle.language.specs.Tree.{unescaped, leaf}
use Rattle.language.specs.BlockText.{Line, blank, line, Deeper, TextLine, BodyLine, hold, trim, lowest, spaces, unlines, body_text, body_end, OpenString, PropertyString}
use Rattle.spans.specs.Every.{Every, InFront, ret_every, here_then, byte_then, bind_every, via, map_every, alt_every, star_every, indented_every}
use Rattle.spans.specs.Formed.{Formed, formed_text}
use Rattle.spans.specs.Lies.{Lies}
use Rattle.spans.proofs.LiesLaws.{leaf_lies}
use Rattle.spans.specs.Texts.{Fits, joined, star_fits, star_cat, plus_cat, byte_steps, option_fits, char_fits, piece_fits}
use Rattle.spans.specs.Body.{Body, body_every, body_le}

-- a block string: its leader's LF stands at e, and s is its text
string_leaf : {a e at' : ℕ} {ls : List Line} {s : List ℕ} → a < e → Body (suc e) ls at' → suc a + length s ≤ at' → Lies Formed 1 a (leaf STRING a (body_end e ls) (unescaped s)) at'
string_leaf {e = e} h x k =
    let b = x.begins e (omega arith) in
    let f = x.ends e (omega arith) in
    leaf_lies (formed_text (omega arith) (omega arith)) (omega arith) (omega arith) (omega arith) (omega arith)

open_leaf : {a e at' : ℕ} (t : List ℕ) {ls : List Line} → Fits (suc a) t e → Body (suc e) ls at' → Lies Formed 1 a (leaf STRING a (body_end e ls) (unescaped (t ++ 10 ∷ body_text ls))) at'
open_leaf t {ls} h x = let f = x.fits in string_leaf (omega arith) x (omega (arith, joined t (10 ∷ body_text ls), body_le ls))

property_leaf : {a at' : ℕ} {ls : List Line} → Body (suc (suc a)) ls at' → Lies Formed 1 a (leaf STRING a (body_end (suc a) ls) (unescaped (body_text ls))) at'
property_leaf {ls = ls} x = let f = x.fits in string_leaf (omega arith) x (omega (arith, body_le ls))

pub open_string_lies : (c at : ℕ) → Every (OpenString c) at (Lies Formed 1 at)
open_string_lies c at =
    here_then
    (byte_then
    (λ g. bind_every
    (option_fits (suc at) (byte_then (λ b. bind_every (plus_cat piece_fits (suc (suc at))) (λ ps m h. ret_every (omega arith)))))
    (λ t e h. here_then (byte_then (λ b. map_every _ (via (body_every c (suc e)) (λ ls at' x. open_leaf t h x)))))))

pub property_string_lies : (n at : ℕ) → Every (PropertyString n) at (Lies Formed 1 at)
property_string_lies n at = here_then (byte_then (λ g. here_then (byte_then (λ b. map_every _ (via (body_every n (suc (suc at))) (λ ls at' x. property_leaf x))))))
