-- What is odd about a line: marks that an editor or another system leaves in it, blanks, and lines of another edition.
use Prim.Native.Char.{code}
use Rattle.std.specs.Prelude.{ℕ, Bool, cond, ◌||◌, List, [], ◌∷◌, eqb, ltb, Option, Some, None, length, get_or}
use Rattle.text.specs.Bytes.{bytes}
use Rattle.text.specs.Lines.{leading_blanks, trim}
use Rattle.text.specs.Part.{same, starts}
use Rattle.report.specs.Report.{version_line}
use Rattle.inspect.specs.Line.{printable_front}
use Rattle.inspect.specs.declared.oddity.Oddity.{Oddity}
use Rattle.inspect.specs.declared.oddity.Oddity.TheVariants.{ByteOrderMark, Tab, CarriageReturn, BlankLine, BlankAfterVersion, OtherEdition, HeaderLine}

-- The bytes that some editors write before a text.
abbrev pub byte_order_mark : List ℕ
byte_order_mark = 239 ∷ 187 ∷ 191 ∷ []

-- What is odd about a byte outside 0x20 to 0x7E.
unfoldable pub odd_byte : ℕ → Option Oddity
odd_byte byte = cond (eqb byte 9) (Some Tab) (cond (eqb byte 13) (Some CarriageReturn) None)

-- What is odd about a line that begins with `# version`: nothing where it is the version line; blanks after it where it is the version line
-- without them; otherwise the edition.
unfoldable pub odd_version : List ℕ → Option Oddity
odd_version line = cond (same line version_line) None (cond (same (trim line) version_line) (Some BlankAfterVersion) (Some OtherEdition))

-- The line holds blanks alone, or nothing.
unfoldable pub is_blank : List ℕ → Bool
is_blank line = eqb (leading_blanks line) (length line)

-- The line begins with `#` or `!`.
unfoldable pub is_header : List ℕ → Bool
is_header line = eqb (get_or line 0 0) (code "#") || eqb (get_or line 0 0) (code "!")

-- What is odd about a line whose bytes are 0x20 to 0x7E.
unfoldable pub odd_printable : List ℕ → Option Oddity
odd_printable line =
    cond (is_blank line) (Some BlankLine)
    (cond (starts (bytes "# version") line) (odd_version line)
    (cond (is_header line) (Some HeaderLine) None))

-- What is odd about a line, its bytes without the LF: the first that holds of a byte order mark before it, a first byte outside 0x20 to 0x7E,
-- and what a line without one says.
unfoldable pub oddity_of : List ℕ → Option Oddity
oddity_of line =
    cond (starts byte_order_mark line) (Some ByteOrderMark)
    (cond (ltb (printable_front line) (length line)) (odd_byte (get_or line (printable_front line) 0)) (odd_printable line))
