use Rattle.std.proofs.Common.{◌≡◌, ◌^◌, ◌<◌, true, take}
use Rattle.std.specs.List.{list_all}
use Rattle.co_text.specs.Texts.{is_hex_digit}
use Rattle.conode_record.specs.Fields.{hex_value}
use Rattle.conode_record.proofs.numbers.hex_number.Given as goal

abbrev pub invariant-loop-byte : goal.invariant-loop-byte
invariant-loop-byte l = record {
  all : list_all is_hex_digit (take l.byte-index l.digits) ≡ true;
  number : l.number ≡ hex_value (take l.byte-index l.digits);
  small : l.number < 16 ^ l.byte-index;
}
