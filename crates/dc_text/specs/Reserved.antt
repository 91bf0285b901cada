-- The words that a source may not declare as names.
use Rattle.std.specs.Prelude.{ℕ, Bool, ◌||◌, nat_eq, List, [], ◌∷◌, codes}
use Rattle.std.specs.List.{list_any, starts_with}
use Rattle.dc_text.specs.Words.{same}

-- the keywords of C11, the predefined types and constants, and the built-in functions
unfoldable pub reserved : List (List ℕ)
reserved = codes "auto" ∷ codes "break" ∷ codes "case" ∷ codes "char" ∷ codes "const" ∷ codes "continue" ∷ codes "default" ∷ codes "do" ∷ codes "double" ∷ codes "else" ∷ codes "enum" ∷ codes "extern" ∷ codes "float" ∷ codes "for" ∷ codes "goto" ∷ codes "if" ∷ codes "inline" ∷ codes "int" ∷ codes "long" ∷ codes "register" ∷ codes "restrict" ∷ codes "return" ∷ codes "short" ∷ codes "signed" ∷ codes "sizeof" ∷ codes "static" ∷ codes "struct" ∷ codes "switch" ∷ codes "typedef" ∷ codes "union" ∷ codes "unsigned" ∷ codes "void" ∷ codes "volatile" ∷ codes "while" ∷ codes "_Alignas" ∷ codes "_Alignof" ∷ codes "_Atomic" ∷ codes "_Bool" ∷ codes "_Complex" ∷ codes "_Generic" ∷ codes "_Imaginary" ∷ codes "_Noreturn" ∷ codes "_Static_assert" ∷ codes "_Thread_local" ∷ codes "bool" ∷ codes "size_t" ∷ codes "ptrdiff_t" ∷ codes "int8_t" ∷ codes "int16_t" ∷ codes "int32_t" ∷ codes "int64_t" ∷ codes "uint8_t" ∷ codes "uint16_t" ∷ codes "uint32_t" ∷ codes "uint64_t" ∷ codes "true" ∷ codes "false" ∷ codes "NULL" ∷ codes "CHAR_BIT" ∷ codes "SCHAR_MIN" ∷ codes "SCHAR_MAX" ∷ codes "UCHAR_MAX" ∷ codes "CHAR_MIN" ∷ codes "CHAR_MAX" ∷ codes "SHRT_MIN" ∷ codes "SHRT_MAX" ∷ codes "USHRT_MAX" ∷ codes "INT_MIN" ∷ codes "INT_MAX" ∷ codes "UINT_MAX" ∷ codes "LONG_MIN" ∷ codes "LONG_MAX" ∷ codes "ULONG_MAX" ∷ codes "LLONG_MIN" ∷ codes "LLONG_MAX" ∷ codes "ULLONG_MAX" ∷ codes "SIZE_MAX" ∷ codes "INT8_MIN" ∷ codes "INT8_MAX" ∷ codes "UINT8_MAX" ∷ codes "INT16_MIN" ∷ codes "INT16_MAX" ∷ codes "UINT16_MAX" ∷ codes "INT32_MIN" ∷ codes "INT32_MAX" ∷ codes "UINT32_MAX" ∷ codes "INT64_MIN" ∷ codes "INT64_MAX" ∷ codes "UINT64_MAX" ∷ codes "malloc" ∷ codes "calloc" ∷ codes "free" ∷ codes "memset" ∷ codes "memcpy" ∷ codes "memmove" ∷ codes "assert" ∷ []

-- a word of the table, or one that begins with __CPROVER_
abbrev pub is_reserved : List ℕ → Bool
is_reserved bytes = starts_with nat_eq bytes (codes "__CPROVER_") || list_any (same bytes) reserved
