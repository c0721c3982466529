-- HEX LINES at a place of a document: what the first byte, the pairs, a comment and the line's end say of their reader.
use Rattle.std.specs.Prelude.{◌≡◌, List, [], ◌∷◌, Bool, ℕ, zero, suc, ◌+◌, ◌≤◌, drop}
use Rattle.std.proofs.Math.Path.{refl, sym, ap}
use Rattle.std.proofs.Common.{◌∙◌, arith}
use Rattle.std.proofs.Math.Bool.{true, false}
use Rattle.language.specs.Strings.{lowhex}
use Rattle.language.specs.BlockText.{part}
use Rattle.exact.specs.Class.{pick, is, only}
use Rattle.exact.specs.Out.{raise, bind, reach, reach_from, Tame, ok, bad}
use Rattle.exact.specs.Lang.{ret_r}
use Rattle.exact.specs.Comb.{seq_r, seq_tame}
use Rattle.exact.specs.Ll.{word_r, word_ll}
use Rattle.exact.specs.Block.{lead}
use Rattle.exact.specs.Lines.{reached}
use Rattle.exact.specs.Place.{peek, There, there, byte_there, none_there, alt_peek}
use Rattle.language.specs.Tree.{unescaped}
use Rattle.characters.specs.Comments.{comment_r, comment_ll, optional_comment_r}
use Rattle.characters.specs.Marks.{comment_none}
use Rattle.strings.specs.Bytes.{pair_r, pairs_r}
use Rattle.blocktext.specs.LineEnd.{line_end_r}
use Rattle.blocktext.specs.HexLines.{commented_r, content_r, hex_rest_r}
use Rattle.blocktext.specs.LineLooks.{line_closed, line_open}
use Rattle.blocktext.specs.Parts.{Unclosed, no_end, no_close}

-- A COMMENT, or pairs
module _ (doc : List ℕ) (at : ℕ) where
  content_peek : content_r at (drop at doc) ≡ pick (is lowhex (peek doc at)) (commented_r at (drop at doc)) (bind (comment_r at (drop at doc)) (λ _. ret_r []))
  unfolding content_r
  content_peek = alt_peek doc at lowhex refl commented_r (seq_r comment_r λ _. ret_r [])

  content_comment : peek doc at ≡ 35 → content_r at (drop at doc) ≡ bind (comment_r at (drop at doc)) (λ _. ret_r [])
  content_comment h = content_peek ∙ ap (λ b. pick (is lowhex b) (commented_r at (drop at doc)) (bind (comment_r at (drop at doc)) (λ _. ret_r []))) h

  shut_pairs : is lowhex (peek doc at) ≡ false → pairs_r at (drop at doc) ≡ bad at
  unfolding pairs_r pair_r
  shut_pairs h = by (there doc at)
    where
      by : There doc at → pairs_r at (drop at doc) ≡ bad at
      by (byte_there k) = rw k (rw h refl)
      by (none_there k z) = rw k refl

  content_pairs : (peek doc at ≡ 35 → ⊥) → content_r at (drop at doc) ≡ commented_r at (drop at doc)
  unfolding commented_r
  content_pairs h = content_peek ∙ by (is lowhex (peek doc at)) refl
    where
      by : (x : Bool) → is lowhex (peek doc at) ≡ x → pick x (commented_r at (drop at doc)) (bind (comment_r at (drop at doc)) (λ _. ret_r [])) ≡ commented_r at (drop at doc)
      by true e = refl
      by false e = ap (λ o. bind o (λ _. ret_r [])) (comment_none doc at h) ∙ sym (ap (λ o. bind o (λ ps. seq_r optional_comment_r λ _. ret_r ps)) (shut_pairs e))

-- HOW FAR a further pair would begin, a line comment behind the pairs goes
spaced_tame : Tame 2 (seq_r (word_r (32 ∷ [])) λ _. comment_r)
spaced_tame = seq_tame (word_ll (32 ∷ [])).exact.moves λ _. comment_ll.exact.moves

pub comment_reach : (doc : List ℕ) (n : ℕ) → n + lead 1 (drop n doc) ≤ reach (optional_comment_r n (drop n doc))
comment_reach doc n = by (there doc n)
  where
    go : (x : Bool) → (t : List ℕ) → n + pick x 1 0 ≤ reach (pick x (bind (bind (pick x (ok (peek doc n) (suc n) t) (bad n)) (λ _. word_r (32 ∷ []))) (λ _. comment_r)) (ok [] n (peek doc n ∷ t)))
    go true t = let l = reach_from (spaced_tame.tame (suc n) t) in omega arith
    go false t = omega arith

    by : There doc n → n + lead 1 (drop n doc) ≤ reach (optional_comment_r n (drop n doc))
    by (byte_there k) = rw k (go (is (only 32) (peek doc n)) (drop (suc n) doc))
    by (none_there k z) = rw k (omega arith)

-- THE REST OF A HEX LINE
module _ (doc : List ℕ) (at : ℕ) (h : peek doc at ≡ 35) where
  rest_comment : hex_rest_r at (drop at doc) ≡ bind (bind (comment_r at (drop at doc)) (λ _. ret_r [])) (λ bs. line_end_r (part (unescaped bs)))
  unfolding hex_rest_r
  rest_comment = ap (λ o. bind o (λ bs. line_end_r (part (unescaped bs)))) (content_comment doc at h)

  pub bare_closed : (v : List ℕ) (e : ℕ) → comment_r at (drop at doc) ≡ ok v e (drop e doc) → peek doc e ≡ 10 → hex_rest_r at (drop at doc) ≡ ok (part (unescaped []) e) (e + 1) (drop (e + 1) doc)
  bare_closed v e c f = rest_comment ∙ (ap (λ o. bind (bind o (λ _. ret_r [])) (λ bs. line_end_r (part (unescaped bs)))) c ∙ line_closed (part (unescaped [])) doc e f)

  pub bare_open : (p : ℕ) → Unclosed doc (comment_r at (drop at doc)) p → hex_rest_r at (drop at doc) ≡ bad p
  bare_open p (no_end c) = rest_comment ∙ ap (λ o. bind (bind o (λ _. ret_r [])) (λ bs. line_end_r (part (unescaped bs)))) c
  bare_open p (no_close v c k) = rest_comment ∙ (ap (λ o. bind (bind o (λ _. ret_r [])) (λ bs. line_end_r (part (unescaped bs)))) c ∙ line_open (part (unescaped [])) doc p k)

module _ (doc : List ℕ) (at : ℕ) (h : peek doc at ≡ 35 → ⊥) where
  rest_pairs : hex_rest_r at (drop at doc) ≡ bind (bind (pairs_r at (drop at doc)) (λ ps. seq_r optional_comment_r λ _. ret_r ps)) (λ bs. line_end_r (part (unescaped bs)))
  unfolding hex_rest_r commented_r
  rest_pairs = ap (λ o. bind o (λ bs. line_end_r (part (unescaped bs)))) (content_pairs doc at h)

  pub pairs_bad : (p : ℕ) → pairs_r at (drop at doc) ≡ bad p → hex_rest_r at (drop at doc) ≡ bad p
  pairs_bad p c = rest_pairs ∙ ap (λ o. bind (bind o (λ ps. seq_r optional_comment_r λ _. ret_r ps)) (λ bs. line_end_r (part (unescaped bs)))) c

  module _ (bs : List ℕ) (n far : ℕ) (c : pairs_r at (drop at doc) ≡ reached far bs n (drop n doc)) (f : far ≡ n + lead 1 (drop n doc)) where
    behind : hex_rest_r at (drop at doc) ≡ bind (bind (reached far bs n (drop n doc)) (λ ps. seq_r optional_comment_r λ _. ret_r ps)) (λ bs. line_end_r (part (unescaped bs)))
    behind = rest_pairs ∙ ap (λ o. bind (bind o (λ ps. seq_r optional_comment_r λ _. ret_r ps)) (λ bs. line_end_r (part (unescaped bs)))) c

    raised : (far : ℕ) (w : List ℕ) (e : ℕ) → optional_comment_r n (drop n doc) ≡ ok w e (drop e doc)
        → bind (bind (reached far bs n (drop n doc)) (λ ps. seq_r optional_comment_r λ _. ret_r ps)) (λ bs. line_end_r (part (unescaped bs)))
        ≡ bind (reached far bs e (drop e doc)) (λ bs. line_end_r (part (unescaped bs)))
    raised zero w e k = ap (λ o. bind (bind o (λ _. ret_r bs)) (λ bs. line_end_r (part (unescaped bs)))) k
    raised (suc q) w e k = ap (λ o. bind (raise (suc q) (bind o (λ _. ret_r bs))) (λ bs. line_end_r (part (unescaped bs)))) k

    pub pairs_closed : (w : List ℕ) (e : ℕ) → optional_comment_r n (drop n doc) ≡ ok w e (drop e doc) → peek doc e ≡ 10
        → hex_rest_r at (drop at doc) ≡ reached far (part (unescaped bs) e) (e + 1) (drop (e + 1) doc)
    pairs_closed w e k z = behind ∙ (raised far w e k ∙ go far)
      where
        go : (far : ℕ) → bind (reached far bs e (drop e doc)) (λ bs. line_end_r (part (unescaped bs))) ≡ reached far (part (unescaped bs) e) (e + 1) (drop (e + 1) doc)
        go zero = line_closed (part (unescaped bs)) doc e z
        go (suc q) = ap (raise (suc q)) (line_closed (part (unescaped bs)) doc e z)

    pub pairs_open : (p : ℕ) → Unclosed doc (optional_comment_r n (drop n doc)) p → hex_rest_r at (drop at doc) ≡ bad p
    pairs_open p (no_end k) = behind ∙ go far (let l = comment_reach doc n in let m = ap reach k in omega arith)
      where
        go : (far : ℕ) → far ≤ p → bind (bind (reached far bs n (drop n doc)) (λ ps. seq_r optional_comment_r λ _. ret_r ps)) (λ bs. line_end_r (part (unescaped bs))) ≡ bad p
        go zero l = ap (λ o. bind (bind o (λ _. ret_r bs)) (λ bs. line_end_r (part (unescaped bs)))) k
        go (suc q) l = ap (λ o. bind (raise (suc q) (bind o (λ _. ret_r bs))) (λ bs. line_end_r (part (unescaped bs)))) k ∙ ap bad (omega arith)
    pairs_open p (no_close w k z) = behind ∙ (raised far w p k ∙ go far (let l = comment_reach doc n in let m = ap reach k in omega arith))
      where
        go : (far : ℕ) → far ≤ p → bind (reached far bs p (drop p doc)) (λ bs. line_end_r (part (unescaped bs))) ≡ bad p
        go zero l = line_open (part (unescaped bs)) doc p z
        go (suc q) l = ap (raise (suc q)) (line_open (part (unescaped bs)) doc p z) ∙ ap bad (omega arith)
