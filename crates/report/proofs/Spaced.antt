-- Numbers with a space between each two: put together from the last to the first, and in two parts.
use Rattle.std.proofs.Common.{◌≡◌, ℕ, ◌<◌, List, [], ◌∷◌, ◌++◌, length, decimal, refl, sym, ap, ◌∙◌, append_assoc, arith}
use Rattle.bus.specs.Lines.{spaced}

-- the last numbers, and a byte behind them
abbrev pub tail : ℕ → List ℕ → List ℕ
tail behind [] = []
tail behind (n ∷ ns) = spaced (n ∷ ns) ++ behind ∷ []

-- what stands between one more number and these
abbrev pub separator : ℕ → List ℕ → ℕ
separator behind [] = behind
separator behind (n ∷ ns) = 32

pub separator_small : (behind : ℕ) (ns : List ℕ) → behind < 128 → separator behind ns < 128
separator_small behind [] small = small
separator_small behind (n ∷ ns) small = omega arith

pub tail_more : (behind n : ℕ) (ns : List ℕ) → tail behind (n ∷ ns) ≡ decimal n ++ (separator behind ns ∷ tail behind ns)
tail_more behind n [] = refl
tail_more behind n (m ∷ ns) = append_assoc (decimal n) (32 ∷ spaced (m ∷ ns)) (behind ∷ [])

pub tail_whole : (behind : ℕ) (ns : List ℕ) → 0 < length ns → tail behind ns ≡ spaced ns ++ behind ∷ []
tail_whole behind [] some = elim some [ ]
tail_whole behind (n ∷ ns) some = refl

-- two parts
pub spaced_parts : (ns ms : List ℕ) → 0 < length ns → 0 < length ms → spaced (ns ++ ms) ≡ (spaced ns ++ 32 ∷ []) ++ spaced ms
spaced_parts [] ms some more = elim some [ ]
spaced_parts (n ∷ ns) [] some more = elim more [ ]
spaced_parts (n ∷ []) (m ∷ ms) some more = sym (append_assoc (decimal n) (32 ∷ []) (spaced (m ∷ ms)))
spaced_parts (n ∷ k ∷ ns) (m ∷ ms) some more =
    ap (λ l. decimal n ++ (32 ∷ l)) (spaced_parts (k ∷ ns) (m ∷ ms) (omega arith) more)
    ∙ sym (append_assoc (decimal n) (32 ∷ (spaced (k ∷ ns) ++ 32 ∷ [])) (spaced (m ∷ ms)))
    ∙ ap (λ l. l ++ spaced (m ∷ ms)) (sym (append_assoc (decimal n) (32 ∷ spaced (k ∷ ns)) (32 ∷ [])))

-- a part more
pub part_more : (behind : ℕ) (before text whole few more : List ℕ) → 0 < length few → 0 < length more
    → before ++ (spaced (few ++ more) ++ behind ∷ []) ≡ whole
    → text ≡ before ++ (spaced few ++ 32 ∷ [])
    → text ++ (spaced more ++ behind ∷ []) ≡ whole
part_more behind before text whole few more some others sofar wrote =
    ap (λ l. l ++ (spaced more ++ behind ∷ [])) wrote
    ∙ append_assoc before (spaced few ++ 32 ∷ []) (spaced more ++ behind ∷ [])
    ∙ ap (λ l. before ++ l) (sym (append_assoc (spaced few ++ 32 ∷ []) (spaced more) (behind ∷ [])) ∙ ap (λ l. l ++ behind ∷ []) (sym (spaced_parts few more some others)))
    ∙ sofar
