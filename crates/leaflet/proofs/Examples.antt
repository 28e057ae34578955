-- Texts worked by hand: one table, with one claim over all rows that the checker computes, and the words of a small
-- text. What a row says is told in Worked.antt. Assumes nothing.
use Rattle.std.proofs.Common.{◌≡◌, refl, ℕ, true, List, [], ◌∷◌, ◌++◌}
use Prim.Native.String.{String}
use Rattle.leaflet.specs.Reader.{words_in}
use Rattle.leaflet.proofs.Worked.{bytes_of, Row, accepted, each, under, refused, ill_formed, right, computed}

pub texts : List Row
texts =
    accepted "" []
    ∷ accepted "薬は、1日2回。" (each "薬は、1日2回。")
    -- without rp, with it, and with an empty one, whose text is dropped
    ∷ accepted "<ruby>漢字<rt>かんじ</rt></ruby>" (under "漢字" 3)
    ∷ accepted "<ruby>漢字<rp>(</rp><rt>かんじ</rt><rp>)</rp></ruby>" (under "漢字" 3)
    ∷ accepted "<ruby>漢字<rp></rp><rt>かんじ</rt><rp></rp></ruby>" (under "漢字" 3)
    -- two in a row, and text around one
    ∷ accepted "<ruby>漢<rt>かん</rt></ruby><ruby>字<rt>じ</rt></ruby>" (under "漢" 2 ++ under "字" 1)
    ∷ accepted "この<ruby>薬<rt>くすり</rt></ruby>は" (each "この" ++ under "薬" 3 ++ each "は")
    -- inside rt any code point may stand, each as one character: a space, a line feed, one of four bytes in no list
    ∷ accepted "<ruby>漢<rt>か ん\n😀</rt></ruby>" (under "漢" 5)
    -- "no nesting"
    ∷ refused "<ruby>漢" "<ruby>字<rt>じ</rt></ruby></ruby>" 9
    -- "end tags written out": of rt; of ruby, at the text's end, and before other text
    ∷ refused "<ruby>漢<rt>かん" "</ruby>" 19
    ∷ refused "<ruby>漢<rt>かん</rt>" "" 24
    ∷ refused "<ruby>漢<rt>かん</rt>" "<ruby>字<rt>じ</rt></ruby>" 24
    -- "bare lower-case tags": upper case, an attribute, a space
    ∷ refused "漢" "<RUBY>字" 3
    ∷ refused "漢" "<ruby lang=\"ja\">字" 3
    ∷ refused "<ruby>漢" "<rt >かん</rt></ruby>" 9
    -- "every other angle bracket or ampersand is refused, a tag cut short at its bracket"
    ∷ refused "漢" ">" 3
    ∷ refused "漢" "&amp;" 3
    ∷ refused "漢" "<br>" 3
    ∷ refused "漢" "<r" 3
    ∷ refused "<ruby>漢<rt>か" "&amp;</rt></ruby>" 16
    -- a tag out of place
    ∷ refused "漢" "<rt>かん</rt>" 3
    ∷ refused "漢" "</ruby>" 3
    -- "An rp, empty or not, stands on both sides of the rt or on neither": before it alone, after it alone
    ∷ refused "<ruby>漢<rp>(</rp><rt>かん</rt>" "</ruby>" 34
    ∷ refused "<ruby>漢<rt>かん</rt>" "<rp>)</rp></ruby>" 24
    -- "After the base text no other text, not even white space, stands outside rt and rp"
    ∷ refused "<ruby>漢<rt>かん</rt>" "字</ruby>" 24
    ∷ refused "<ruby>漢<rt>かん</rt>" "\n</ruby>" 24
    ∷ refused "<ruby>漢<rp>(</rp>" " <rt>かん</rt><rp>)</rp></ruby>" 19
    -- "one base text and one rt, neither empty"
    ∷ refused "<ruby>" "<rt>かん</rt></ruby>" 6
    ∷ refused "<ruby>漢<rt>" "</rt></ruby>" 13
    ∷ refused "<ruby>漢" "</ruby>" 9
    ∷ refused "<ruby>漢<rt>かん</rt>" "<rt>じ</rt></ruby>" 24
    -- a plain or base character in no list: a space, a full-width letter
    ∷ refused "漢" " 字" 3
    ∷ refused "<ruby>漢" "Ａ<rt>かん</rt></ruby>" 9
    -- "the Unicode standard's table of well-formed sequences": a surrogate, outside and in an rt; overlong forms; past
    -- 10FFFF; a byte that goes on after none; a sequence that the text's end cuts, and that a tag cuts
    ∷ ill_formed "漢" (0xED ∷ 0xA0 ∷ 0x80 ∷ []) 3
    ∷ ill_formed "<ruby>漢<rt>" (0xED ∷ 0xA0 ∷ 0x80 ∷ bytes_of "</rt></ruby>") 13
    ∷ ill_formed "漢" (0xC0 ∷ 0x80 ∷ []) 3
    ∷ ill_formed "漢" (0xE0 ∷ 0x80 ∷ 0x80 ∷ []) 3
    ∷ ill_formed "漢" (0xF4 ∷ 0x90 ∷ 0x80 ∷ 0x80 ∷ []) 3
    ∷ ill_formed "漢" (0x80 ∷ []) 3
    ∷ ill_formed "漢" (0xE3 ∷ 0x81 ∷ []) 3
    ∷ ill_formed "<ruby>漢<rt>か" (0xE3 ∷ 0x81 ∷ bytes_of "</rt></ruby>") 16
    ∷ []

-- every row comes out as it was worked by hand
pub texts_hold : right texts ≡ true
unfolding computed texts
texts_hold = refl

-- hiragana and ideographs as wide as their size, 80; a comma and a Western digit half as wide; two groups
pub small : String
small = "は、1<ruby>漢字<rt>かんじ</rt></ruby><ruby>語<rt>ご</rt></ruby>"

pub small_words : List ℕ
small_words =
    0x306F ∷ 15 ∷ 80 ∷ 80 ∷ 0 ∷ 0
    ∷ 0x3001 ∷ 7 ∷ 80 ∷ 40 ∷ 0 ∷ 0
    ∷ 0x31 ∷ 27 ∷ 80 ∷ 40 ∷ 0 ∷ 0
    ∷ 0x6F22 ∷ 19 ∷ 80 ∷ 80 ∷ 1 ∷ 3
    ∷ 0x5B57 ∷ 19 ∷ 80 ∷ 80 ∷ 1 ∷ 3
    ∷ 0x8A9E ∷ 19 ∷ 80 ∷ 80 ∷ 2 ∷ 1
    ∷ []

pub words_hold : words_in 80 (bytes_of small) ≡ small_words
unfolding computed small small_words
words_hold = refl
