mod Registers
