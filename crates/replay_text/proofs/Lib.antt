mod Digits
mod Digesting
