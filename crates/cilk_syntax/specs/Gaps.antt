-- The gaps between tokens.

pub data Gap : Type 0 where
  Blank : Gap
  LineComment : Gap
  BlockComment : Gap
  Directive : Gap
