-- What is known of where chunks begin, as lines come in and go out.
use Rattle.std.proofs.Common.{◌≡◌, ℕ, ◌+◌, ◌-◌, ◌^◌, ◌<◌, ◌≤◌, List, [], ◌∷◌, ◌++◌, length, get_or, set, refl, ap, ◌∙◌, sym, arith, append-nil, length-set, ⊎_elim}
use Rattle.std.proofs.lemmas.Bool.{cases_lt}
use Rattle.std.proofs.lemmas.List.{length-append, take-append-le}
use Rattle.ed_base.specs.Buffer.{Line}
use Rattle.line_store.specs.Starts.{StartsValue}
use Rattle.line_store.specs.Chunks.{joined, lines_before, room_among, Known, Starts}
use Rattle.line_store.proofs.Joined.{before-all, before-most, before-next, before-take, joined-append, before-later, before-set_low, before-set_high, length-joined-set}

-- each chunk's start was counted
pub known-counted : (count : ℕ) (starts : StartsValue) (chunks : List (List Line)) → count ≡ length (joined chunks) →
    length chunks ≤ starts.room → length starts.starts ≡ length chunks → Starts starts.starts chunks → Known count starts chunks
known-counted count starts chunks all room long are = record { all = all; room = room; long = long; before = are }

-- where one more line can be counted, it can come in before each chunk
pub start-fits : (m count : ℕ) (starts : StartsValue) (chunks : List (List Line)) → Known count starts chunks →
    m < length starts.starts → length (joined chunks) + 1 < 2 ^ 64 → get_or starts.starts m 0 < 2 ^ 64 - 1
start-fits m count starts chunks known h fits = omega (arith, known.before m (omega (arith, known.long)), before-most m chunks)

-- a chunk that has lines begins before each later one
pub start-more : (k m count : ℕ) (starts : StartsValue) (chunks : List (List Line)) → Known count starts chunks → k < m →
    m < length starts.starts → 0 < length (get_or chunks k []) → get_or starts.starts k 0 < get_or starts.starts m 0
start-more k m count starts chunks known h l some =
    let within : k < length chunks = omega (arith, known.long) in
    omega (
      arith,
      known.before k within,
      known.before m (omega (arith, known.long)),
      before-next k chunks within,
      before-later (k + 1) m chunks (omega arith),
    )

-- a chunk in place of another, where each later chunk begins as many lines further as it has more
pub known-moved : (k count after : ℕ) (old new : StartsValue) (chunks : List (List Line)) (chunk : List Line) →
    Known count old chunks → k < length chunks → after + length (get_or chunks k []) ≡ count + length chunk →
    length new.starts ≡ length old.starts → new.room ≡ old.room →
    ((m : ℕ) → k < m → m < length old.starts →
    get_or new.starts m 0 + length (get_or chunks k []) ≡ get_or old.starts m 0 + length chunk) → ((m : ℕ) → m ≤ k →
    get_or new.starts m 0 ≡ get_or old.starts m 0) → Known after new (set chunks k chunk)
known-moved k count after old new chunks chunk known inside size long room later earlier =
    let same = length-set chunks k chunk in
    record {
      all = omega (arith, known.all, length-joined-set k chunks chunk inside);
      room = omega (arith, known.room);
      long = long ∙ known.long ∙ sym same;
      before = λ m h. ⊎_elim
          (λ l. omega (
            arith,
            later m l (omega (arith, known.long)),
            known.before m (omega arith),
            before-set_high m k chunks chunk l inside,
          ))
          (λ l. earlier m l ∙ known.before m (omega arith) ∙ sym (before-set_low m k chunks chunk l))
          (cases_lt k m);
    }

-- and where it has as many
pub known-exchanged : (k count : ℕ) (starts : StartsValue) (chunks : List (List Line)) (chunk : List Line) →
    Known count starts chunks → k < length chunks → length chunk ≡ length (get_or chunks k []) →
    Known count starts (set chunks k chunk)
known-exchanged k count starts chunks chunk known inside same =
    known-moved k count count starts starts chunks chunk known inside (omega arith) refl refl (λ m h l. omega arith) (λ m h. refl)

-- one more chunk after all others
before-first : (k : ℕ) (chunks more : List (List Line)) → k ≤ length chunks → lines_before k (chunks ++ more) ≡ lines_before k chunks
before-first k chunks more h =
    sym (before-take k (chunks ++ more)) ∙ ap (λ t. length (joined t)) (take-append-le k chunks more h) ∙ before-take k chunks

pub known-pushed : (count all : ℕ) (old reserved new : StartsValue) (chunks now : List (List Line)) (chunk : List Line) →
    Known count old chunks → now ≡ chunks ++ chunk ∷ [] → all ≡ count + length chunk → reserved.starts ≡ old.starts →
    length old.starts + 1 ≤ reserved.room → length new.starts ≡ length reserved.starts + 1 → get_or new.starts (length reserved.starts) 0 ≡ count →
    ((k : ℕ) → k < length reserved.starts → get_or new.starts k 0 ≡ get_or reserved.starts k 0) → new.room ≡ reserved.room →
    Known all new now
known-pushed count all old reserved new chunks now chunk known is size same room long last earlier kept =
    let many : length now ≡ length chunks + 1 = ap length is ∙ length-append chunks (chunk ∷ []) in
    let before : length reserved.starts ≡ length chunks = ap length same ∙ known.long in
    record {
      all = omega (
        arith,
        size,
        known.all,
        ap (λ t. length (joined t)) is,
        ap length (joined-append chunks (chunk ∷ [])),
        length-append (joined chunks) (chunk ++ []),
        ap length (append-nil chunk),
      );
      room = omega (arith, many, room, kept, known.long);
      long = omega (arith, long, before, many);
      before = λ k h. ⊎_elim
          (λ l.
          earlier k (omega (arith, before)) ∙ ap (λ t. get_or t k 0) same ∙ known.before k l
          ∙ sym (ap (lines_before k) is ∙ before-first k chunks (chunk ∷ []) (omega arith)))
          (λ l.
          let at : k ≡ length chunks = omega (arith, many) in
          ap (λ n. get_or new.starts n 0) (at ∙ sym before) ∙ last ∙ known.all ∙ sym (before-all chunks)
          ∙ ap (λ n. lines_before n chunks) (sym at)
          ∙ sym (ap (lines_before k) is ∙ before-first k chunks (chunk ∷ []) (omega arith)))
          (cases_lt k (length chunks));
    }

-- where no chunk is lost and no line comes in, there is as much room
pub room-least : (old new : List (List Line)) → length old ≤ length new → length (joined new) ≤ length (joined old) →
    room_among old ≤ room_among new
room-least old new h l = omega arith

-- a line more takes the room of one
pub room-spent : (old new : List (List Line)) → length old ≤ length new → length (joined new) ≡ length (joined old) + 1 →
    room_among old ≤ room_among new + 1
room-spent old new h l = omega arith
