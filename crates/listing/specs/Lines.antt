-- Lines made of texts put one behind the other: how long they are, and that together the texts are the line.
use Rattle.std.specs.Prelude.{◌≡◌, List, ◌++◌, ℕ, ◌+◌, ◌*◌, ◌≤◌, ◌<◌, length}
use Rattle.std.proofs.Common.{◌∙◌, subst, arith, length-append}
use Rattle.listing.specs.Texts.{sheet_limit, decimal, hex, space, newline, refused_word, at_word, number_line, leaf_line, refused_text}
use Rattle.common.specs.Putting.{Puts, puts_more}
use Rattle.listing.specs.Digits.{decimal_short, hex_length}

-- a word, a number and the line's end
pub number_length : (word : List ℕ) (n : ℕ) → length (number_line word n) ≡ length word + (length (decimal n) + 1)
unfolding number_line
number_length word n = length-append (word ++ decimal n) newline ∙ omega (arith, length-append word (decimal n))

pub number_puts : {at r s t : ℕ} {out out₁ out₂ out₃ : List ℕ} (word : List ℕ) (n : ℕ) → at + length (number_line word n) ≤ length out
    → Puts at word out r out₁ → Puts r (decimal n) out₁ s out₂ → Puts s newline out₂ t out₃ → Puts at (number_line word n) out t out₃
unfolding number_line
number_puts word n h p q s =
    puts_more (omega (arith, number_length word n, length-append word (decimal n))) (puts_more (omega (arith, number_length word n)) p q) s

-- a leaf's line: its number, a space, its code in hex, and the line's end
pub leaf_length : (n : ℕ) (code : List ℕ) → length (leaf_line n code) ≡ length (decimal n) + (2 * length code + 2)
unfolding leaf_line
leaf_length n code = length-append ((decimal n ++ space) ++ hex code) newline ∙ omega (arith, length-append (decimal n ++ space) (hex code), length-append (decimal n) space, hex_length code)

pub leaf_puts : {at r s t u : ℕ} {out out₁ out₂ out₃ out₄ : List ℕ} (n : ℕ) (code : List ℕ) → at + length (leaf_line n code) ≤ length out
    → Puts at (decimal n) out r out₁ → Puts r space out₁ s out₂ → Puts s (hex code) out₂ t out₃ → Puts t newline out₃ u out₄ → Puts at (leaf_line n code) out u out₄
unfolding leaf_line
leaf_puts n code h p q s t =
    let front = length-append (decimal n) space in
    puts_more (omega (arith, leaf_length n code, hex_length code, length-append (decimal n ++ space) (hex code)))
    (puts_more (omega (arith, leaf_length n code)) (puts_more (omega (arith, leaf_length n code)) p q) s) t

-- a byte's digits, and those of an offset in a sheet that is listed
pub byte_short : (n : ℕ) → n < 256 → length (decimal n) ≤ 3
byte_short n h = decimal_short n 2 (omega arith)

pub offset_short : (n : ℕ) → n ≤ sheet_limit → length (decimal n) ≤ 5
offset_short n h = decimal_short n 4 (omega arith)

-- the line of a refused sheet: 32 bytes hold it
pub refused_puts : {refusal x offset r s t u v : ℕ} {out out₁ out₂ out₃ out₄ out₅ : List ℕ} → x ≡ refusal → x < 256 → offset ≤ sheet_limit → 32 ≤ length out → Puts 0 refused_word out r out₁
    → Puts r (decimal x) out₁ s out₂ → Puts s at_word out₂ t out₃ → Puts t (decimal offset) out₃ u out₄ → Puts u newline out₄ v out₅ → Puts 0 (refused_text refusal offset) out v out₅ × (v ≤ 32)
unfolding refused_text
refused_puts {x = x} {offset = offset} {v = v} {out = out} {out₅ = out₅} e h k l p q s t u =
    let a = length-append refused_word (decimal x) in
    let b = length-append (refused_word ++ decimal x) at_word in
    let c = length-append ((refused_word ++ decimal x) ++ at_word) (decimal offset) in
    let d = byte_short x h in
    let f = offset_short offset k in (
      subst (λ (n : ℕ). Puts 0 (refused_text n offset) out v out₅) e
          (puts_more (omega arith) (puts_more (omega arith) (puts_more (omega arith) (puts_more (omega arith) p q) s) t) u),
      omega (arith, p.next, q.next, s.next, t.next, u.next),
    )
