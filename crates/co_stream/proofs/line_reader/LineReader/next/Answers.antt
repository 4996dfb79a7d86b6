use Rattle.std.proofs.Common.{rules, refl}
use Rattle.co_stream.proofs.Readers.{of_known}
use Rattle.co_stream.proofs.line_reader.LineReader.next.Goals as goal

pub returns-in-Ok-true : goal.returns-in-Ok-true
returns-in-Ok-true g c = rw (← c.self.view_is) (
  (refl, λ _. tt, record { line = search rules; end = tt; too_long = tt; within = tt; fault = tt; no_fault = search rules; asked = search rules; fewer = search rules; read = tt; never_ends = tt }),
  record { after_borrow = tt; length = search rules; too_long = tt; within = tt; again = search rules; held = search rules; ended = search rules },
)

pub returns-in-Ok-false : goal.returns-in-Ok-false
returns-in-Ok-false g c =
    let end = c.in-Ok-false.ensures.end (search rules) in
    rw (← c.self.view_is) (
      (refl, λ _. tt, record { line = tt; end = end.0; too_long = tt; within = tt; fault = tt; no_fault = search rules; asked = search rules; fewer = tt; read = tt; never_ends = tt }),
      record { after_borrow = tt; length = tt; too_long = tt; within = tt; again = search rules; held = search rules; ended = search rules },
    )

pub returns-in-Err : goal.returns-in-Err
returns-in-Err g c =
    let before = g.R.Read.remaining c.args.reader.now in
    let after = g.R.Read.remaining c.advance.new.reader in
    rw (← c.self.view_is) (
      (
        refl,
        λ _. tt,
        record {
          line = tt;
          end = tt;
          too_long = λ is _. c.in-Err.ensures.too_long is;
          within = λ other _. c.in-Err.ensures.within other;
          fault = refl;
          no_fault = tt;
          asked = search rules;
          fewer = tt;
          read = λ is _. c.in-Err.ensures.failed is;
          never_ends = λ is _. c.in-Err.ensures.never_ends is;
        },
      ),
      record {
        after_borrow = tt;
        length = tt;
        too_long = λ is _. of_known _ _ before after _ (c.in-Err.ensures.too_long is);
        within = λ other _. of_known _ _ before after _ (c.in-Err.ensures.within other);
        again = search rules;
        held = search rules;
        ended = search rules;
      },
    )
