use Rattle.std.proofs.Common.{◌≡◌, ◌≤◌, ◌+◌, map, take, drop, length}
use Rattle.crs_log.specs.SeenItems.{text_of}
use Rattle.crs_model.specs.Renaming.{text_in}
use Rattle.crs_model.specs.Renaming.{AreKnown}
use Rattle.crs_log.specs.Items.{AreSymbols}
use Rattle.crs_log.specs.Known.{new_texts}
use Rattle.crs_log.proofs.entries.adding.intern_args.Given as goal
use Rattle.crs_base.specs.Symbols.{with_texts}

abbrev pub invariant-loop-i : goal.invariant-loop-i
invariant-loop-i l = record {
  texts : l.symbols.texts ≡ with_texts l.fn.symbols.texts (map (text_of l.line) (take l.i l.spans));
  numbers : map (text_in l.symbols.texts) (take l.i l.all) ≡ map (text_of l.line) (take l.i l.spans);
  within : AreKnown l.symbols.texts (take l.i l.all);
  limit : l.symbols.limit ≡ l.fn.symbols.limit;
  symbols : AreSymbols (map (text_of l.line) (drop l.i l.spans));
  room : length l.symbols.texts + length (new_texts l.symbols.texts (map (text_of l.line) (drop l.i l.spans))) ≤ l.fn.symbols.limit;
  size : length l.all ≡ 8;
}
