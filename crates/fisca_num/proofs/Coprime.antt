-- Numbers without a common divisor.
use Rattle.std.proofs.Common.{◌≡◌, ℕ, ◌*◌, ◌/◌, ◌<◌, arith, ap, ◌∙◌}
use Rattle.std.specs.Int.{◌∣◌, IsGcd}
use Rattle.std.proofs.lemmas.Nat.Gcd.{dvd_trans}
use Rattle.std.proofs.Math.Nat.{dvd-mul_left, dvd-mul_left_of_dvd, mul-div_cancel', mul-div_cancel_left}
use Rattle.fisca_num.specs.Lowest.{IsCoprime, euclid}

pub coprime_swap : (a b : ℕ) → IsCoprime a b → IsCoprime b a
coprime_swap a b h k p q = h k q p

pub coprime_product : (x y z : ℕ) → IsCoprime x z → IsCoprime y z → IsCoprime (x * y) z
coprime_product x y z hx hy k p q = hy k (euclid k x y (λ e s t. hx e t (dvd_trans e s q)) p) q

pub parts_coprime : (x y a b : ℕ) → a ∣ x → b ∣ y → IsCoprime x y → IsCoprime a b
parts_coprime x y a b p q h k s t = h k (dvd_trans k s p) (dvd_trans k t q)

pub part_divides : (n g : ℕ) → g ∣ n → n / g ∣ n
part_divides n g h = let e : g * (n / g) ≡ n = mul-div_cancel' g h in rw e at (dvd-mul_left (n / g) g)

-- a factor without a common divisor changes nothing
pub gcd_beyond : (s x g k : ℕ) → IsCoprime s x → IsGcd s g k → IsGcd s (x * g) k
gcd_beyond s x g k co h = (h.0, dvd-mul_left_of_dvd k h.1 x, λ e p q. h.2 e p (euclid e x g (λ f a b. co f (dvd_trans f a p) b) q))

-- a product divided by a divisor of its second factor
pub product_over : (x n k : ℕ) → 0 < k → k ∣ n → x * n / k ≡ x * (n / k)
product_over x n k some h =
    let e : k * (n / k) ≡ n = mul-div_cancel' k h in
    let f : x * n ≡ k * (x * (n / k)) = omega (arith, ap (λ z. x * z) e) in
    ap (λ z. z / k) f ∙ mul-div_cancel_left (x * (n / k)) some
