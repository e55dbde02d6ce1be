mod Cuts
mod Taking
