-- Laws of `Adds`: text joins what waits; or all has left; or what waited has left, and the text is what waits. Assumes nothing.
use Rattle.std.proofs.Common.{◌≡◌, ap, ◌∙◌, refl, ℕ, ◌<◌, List, [], ◌++◌, length, IsSome, Option, arith}
use Rattle.std.specs.declared.option.Option.TheVariants.{None, Some}
use mathlib.Core.List.{append-nil}
use Rattle.std.specs.Option.{option_map}
use Rattle.output_buffer.specs.Text.{Gathered, Adds, text_of}

module _ (before after : Gathered) (xs : List ℕ) where
  -- text joins what waits
  pub joined : after.text ≡ option_map (λ ts. ts ++ xs) before.text → after.room ≡ before.room → Adds before xs after
  joined e same = go before.text refl
    where
      go : (t : Option (List ℕ)) → before.text ≡ t → Adds before xs after
      go None is = record {
        handed = xs;
        in_order = rw (e, is) (append-nil xs);
        failed = rw (e, is) (λ s. s);
        kept = rw (e, is) (λ s. cc);
        room = same;
      }
      go (Some ts) is = record {
        handed = [];
        in_order = rw (e, is) refl;
        failed = rw is (λ s. search);
        kept = λ s h. omega arith;
        room = same;
      }

  -- all has left
  pub all_left : text_of after ≡ [] → (IsSome after.text → IsSome before.text) → (IsSome after.text → after.room < length xs) → after.room ≡ before.room → Adds before xs after
  all_left e failed long same = record {
    handed = text_of before ++ xs;
    in_order = rw e (append-nil (text_of before ++ xs));
    failed = failed;
    kept = λ s h. omega (arith, long s, h);
    room = same;
  }

  -- what waited has left, and the text is what waits
  pub anew : (mid : Gathered) → text_of mid ≡ [] → (IsSome mid.text → IsSome before.text) → mid.room ≡ before.room → after.text ≡ option_map (λ ts. ts ++ xs) mid.text → after.room ≡ mid.room → Adds before xs after
  anew mid empty failed same e kept = go mid.text refl
    where
      go : (t : Option (List ℕ)) → mid.text ≡ t → Adds before xs after
      go None is = record {
        handed = text_of before ++ xs;
        in_order = rw (e, is) (append-nil (text_of before ++ xs));
        failed = rw (e, is) (λ s. cc);
        kept = rw (e, is) (λ s. cc);
        room = kept ∙ same;
      }
      go (Some ts) is = record {
        handed = text_of before;
        in_order = rw (e, is) (ap (λ l. text_of before ++ (l ++ xs)) (rw is at empty));
        failed = λ s. failed (rw is search);
        kept = λ s h. omega arith;
        room = kept ∙ same;
      }
